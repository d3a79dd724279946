-- What is known of a call that passes its tests.
pub mod Buffers
pub mod Send
pub mod Reclaim
pub mod Relinquish
pub mod Retrieve
