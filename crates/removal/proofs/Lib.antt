pub mod RemoveCode
pub mod RebalanceCode
pub mod OneNodeCode
