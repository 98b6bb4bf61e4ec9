-- Laws of lengths, by topic.
pub mod Digits
pub mod Answer
pub mod Cut
