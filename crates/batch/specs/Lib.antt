pub mod Contract
pub mod Code
pub mod Made
