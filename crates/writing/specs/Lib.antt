pub mod Buffer
pub mod Page
pub mod Answer
pub mod ReadBack
