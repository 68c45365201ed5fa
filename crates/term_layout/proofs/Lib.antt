-- The laws of the crate `term_layout`.
pub mod NumberLaws
pub mod KidsLaws
pub mod TakeLaws
