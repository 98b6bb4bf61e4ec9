-- Laws of laboratory sheets.
pub mod Mapped
pub mod Value
pub mod Examples
pub mod Sheet
