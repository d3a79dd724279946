pub mod Functions
pub mod Requests
pub mod Replies
