pub mod Contract
pub mod Called
