-- The laws of `heads`.
pub mod NodeLaws
pub mod ReadableLaws
