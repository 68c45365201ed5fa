-- The laws of the crate `term_order`.
pub mod LawfulLaws
pub mod StepLaws
pub mod HeadLaws
pub mod CodeLaws
