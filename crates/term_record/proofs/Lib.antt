-- The laws of the crate `term_record`.
pub mod WalkLaws
pub mod CheckLaws
pub mod BucketLaws
