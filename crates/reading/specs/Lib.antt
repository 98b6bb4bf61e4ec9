pub mod Text
pub mod Number
pub mod Names
pub mod Form
pub mod Line
pub mod Examples
