pub mod ChainLaws
pub mod ArrayLaws
pub mod EditLaws
pub mod EditCode
