pub mod Ledger
pub mod Changes
pub mod Gifts
pub mod Intervals
pub mod Free
