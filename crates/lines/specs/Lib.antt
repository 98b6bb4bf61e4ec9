pub mod Asking
pub mod Session
pub mod Blocks
