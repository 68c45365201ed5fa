-- The laws of the crate `text_counts`.
pub mod TallyLaws
