-- The definitions of the crate `text_rules`: plain text and let text as functions from a store and a number to bytes.
pub mod Forms
pub mod Counts
pub mod Bindings
pub mod LetText
pub mod PlainText
