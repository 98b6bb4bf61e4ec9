-- Laws of vectors, by topic.
pub mod Units
pub mod Columns
pub mod Figures
pub mod Draw
pub mod Totals
