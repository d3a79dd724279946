-- The rules of the calls (FF-A 1.1, "Setup and discovery interfaces", "Memory management interfaces").
pub mod Version
pub mod Features
pub mod IdGet
pub mod Buffers
pub mod Send
pub mod Retrieve
pub mod Relinquish
pub mod Reclaim
