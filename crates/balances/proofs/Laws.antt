-- Laws of a list of calls, previews, sheets and blends: the balances, and that the record stays within its ceilings (Within).
pub mod Balance
pub mod Within
