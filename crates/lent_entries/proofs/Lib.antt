-- What the proofs of the crate `lent_entries` share.
pub mod EntriesLaws
