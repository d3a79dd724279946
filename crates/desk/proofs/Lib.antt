pub mod Numbers
pub mod Runs
pub mod Booked
pub mod Receipts
pub mod Views
pub mod Moves
pub mod Settled
pub mod Eight
