-- Laws of lines and sessions, by topic.
pub mod Asking
pub mod Session
pub mod Preview
pub mod File
pub mod Blocks
pub mod Run
pub mod Carry
