-- The laws of the crate `text_rules`.
pub mod FormLaws
pub mod CountLaws
pub mod SizeLaws
pub mod Cases
