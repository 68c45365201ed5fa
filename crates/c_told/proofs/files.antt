-- The laws of `files`.
pub mod FileLaws
