-- The laws of `headlines`.
pub mod StepLaws
pub mod LineLaws
pub mod PutLaws
