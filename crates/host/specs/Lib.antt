pub mod Record
pub mod Sheet
pub mod Calls
