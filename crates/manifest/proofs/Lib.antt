mod Alike
pub mod Tables
pub mod Counting
pub mod Regions
pub mod Needs
pub mod Facts
mod Legal
mod Rows
mod Lookups
mod RegionPages
pub mod EachPartition
