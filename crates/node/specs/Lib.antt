pub mod Chain
pub mod Edit
pub mod EditMirror
