-- Laws of the host's calls.
pub mod Record
pub mod Sheet
pub mod Hauled
