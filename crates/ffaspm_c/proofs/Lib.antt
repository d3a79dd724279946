pub mod AsBox
pub mod Held
pub mod RxFits
pub mod Roots
