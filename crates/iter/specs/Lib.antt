pub mod Answer
pub mod Walk
pub mod Cursor
pub mod Mirror
