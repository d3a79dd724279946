pub mod Inside
pub mod Order
pub mod Spelled
pub mod Parts
pub mod Laws
