-- The bytes of descriptors (FF-A 1.1 and 1.0, "Memory management").
pub mod Permissions
pub mod Send
pub mod Retrieve
pub mod Relinquish
pub mod Response
pub mod Encoding
