-- Laws of refusals.
pub mod Refusal
