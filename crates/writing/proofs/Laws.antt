-- Laws of writing, by topic.
pub mod Decimal
pub mod Buffer
pub mod Page
pub mod Answer
pub mod OneLine
pub mod ReadBack
pub mod Named
