pub mod Record
pub mod Answer
pub mod Nitrite
pub mod Calls
pub mod Tanks
pub mod Laws
