pub mod Walks
pub mod CursorLaws
pub mod Theorems
pub mod CodeLaws
pub mod Lenient
