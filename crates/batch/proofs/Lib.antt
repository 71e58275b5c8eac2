pub mod BatchCode
pub mod Theorems
pub mod Nights
