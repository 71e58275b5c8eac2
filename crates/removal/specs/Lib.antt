pub mod RemoveCode
