-- The laws of `widths`.
pub mod WidthLaws
pub mod FlatLaws
