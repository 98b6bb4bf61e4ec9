pub mod Blend
pub mod Laws
