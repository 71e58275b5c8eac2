pub mod Marks
pub mod Contract
pub mod Walk
pub mod Code
