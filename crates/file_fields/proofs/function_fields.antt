-- The laws of `function_fields`.
pub mod StepLaws
pub mod ArgumentLaws
