pub mod Codec
pub mod Layout
pub mod Strict
pub mod Mirror
pub mod Splice
pub mod Position
