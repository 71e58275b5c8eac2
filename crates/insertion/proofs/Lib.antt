pub mod InsertCode
pub mod SpliceCode
