-- What holds of every rule, and of every state that calls reach.
pub mod EditsTheView
pub mod OneOwner
pub mod History
pub mod Handles
pub mod BuffersApart
pub mod Writers
pub mod Isolation
pub mod SentPages
pub mod Clears
