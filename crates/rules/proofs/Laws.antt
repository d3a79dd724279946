-- The laws, a file each, and in it a case for each call.
pub mod ManifestStays
pub mod EditsTheView
pub mod Clears
pub mod OneOwner
pub mod History
pub mod Handles
pub mod BuffersApart
pub mod Writers
pub mod OwnBuffers
pub mod Isolation
pub mod SentPages
