pub mod FaceLaws
pub mod Theorems
