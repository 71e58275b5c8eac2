pub mod SearchLaws
pub mod SearchCode
