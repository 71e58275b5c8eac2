pub mod Records
pub mod Fit
pub mod RunAt
pub mod Mirror
