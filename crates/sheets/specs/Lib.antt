pub mod Value
pub mod Sheet
pub mod Examples
