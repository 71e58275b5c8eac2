pub mod KeyOrder
pub mod PartLaws
pub mod NumLaws
pub mod AtLaws
pub mod CodeLaws
pub mod MoveLaws
