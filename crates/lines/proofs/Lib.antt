mod Ascii
mod Digits
pub mod FirstPart
mod Hex
mod Many
mod Parts
