-- The laws of the crate `text_lines`.
pub mod CleanLaws
pub mod OwnLaws
pub mod LineLaws
pub mod ThreeLaws
pub mod SeenLaws
