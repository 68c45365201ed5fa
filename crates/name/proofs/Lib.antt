-- The laws of the crate `name`.
pub mod NameLaws
pub mod EntryLaws
pub mod PasteLaws
pub mod PutLaws
