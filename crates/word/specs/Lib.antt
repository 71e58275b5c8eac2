pub mod Pick
pub mod Key
pub mod Part
pub mod Num
pub mod At
