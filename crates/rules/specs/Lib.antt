pub mod Call
pub mod Rule
pub mod Transfers
pub mod Receivers
pub mod Clearing
pub mod Calls
pub mod Run
pub mod Laws
