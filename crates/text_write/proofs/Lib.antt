-- The laws of the crate `text_write`.
pub mod CallLaws
pub mod MeasuringLaws
pub mod PieceLaws
pub mod WritingLaws
