pub mod Feed
pub mod Before
pub mod Return
pub mod Whole
pub mod Structs
pub mod Plants
pub mod Laws
