pub mod Units
pub mod Columns
pub mod Figures
pub mod Totals
pub mod Weighed
pub mod Draw
pub mod Laws
