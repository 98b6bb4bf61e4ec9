-- Laws of composing, by topic.
pub mod Column
pub mod Buffer
pub mod Number
pub mod Read
pub mod Only
pub mod Line
pub mod Examples
