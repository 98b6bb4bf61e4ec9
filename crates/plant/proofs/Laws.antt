-- Laws of the plant record: of its tests (Record), of refusals (Decision), of the calls (Calls), of ceilings (Within) and of == (Same).
pub mod Record
pub mod Decision
pub mod Calls
pub mod Within
pub mod Nitrite
pub mod Same
