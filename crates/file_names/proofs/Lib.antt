-- The laws of the crate `file_names`.
pub mod TextLaws
pub mod EntriesLaws
