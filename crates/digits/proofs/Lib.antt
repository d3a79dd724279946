pub mod HexDigits
pub mod Addresses
pub mod Texts
pub mod Parts
