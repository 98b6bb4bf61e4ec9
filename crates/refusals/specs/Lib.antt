pub mod Refusal
pub mod Tests
pub mod Laws
