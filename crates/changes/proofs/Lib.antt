pub mod RecordLaws
pub mod CheckLaws
pub mod RunAtLaws
pub mod FineLaws
pub mod WrittenLaws
pub mod ReadLaws
pub mod RunsLaws
pub mod Table
