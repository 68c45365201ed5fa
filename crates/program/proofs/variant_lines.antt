-- The laws of `variant_lines`.
pub mod ReplyLaws
pub mod SheetLaws
