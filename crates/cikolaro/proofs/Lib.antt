pub mod FaceCode
pub mod Theorems
pub mod Nights
