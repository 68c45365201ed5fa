-- The laws of the crate `copies`.
pub mod CopiedLaws
