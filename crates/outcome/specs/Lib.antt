pub mod Mirror
pub mod RemoveMirror
pub mod RunMirror
pub mod Outcome
