mod Receivers
mod Transactions
mod Donations
mod Halving
mod Places
mod Kept
mod Segments
