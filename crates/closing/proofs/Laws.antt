-- Laws of closing a proposal.
pub mod Closing
