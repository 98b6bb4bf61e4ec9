-- Laws of blends.
pub mod Blend
pub mod Draws
