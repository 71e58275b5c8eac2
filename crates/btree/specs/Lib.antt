pub mod RunCode
