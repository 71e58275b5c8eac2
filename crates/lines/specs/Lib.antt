pub mod Digits
pub mod Lines
pub mod Parses
pub mod Written
pub mod Mirror
