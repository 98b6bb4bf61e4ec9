-- Laws of the conversions.
pub mod Feed
pub mod Return
pub mod Plants
pub mod Whole
