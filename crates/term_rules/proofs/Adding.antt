-- The laws of `adding`. What adding a term does to a well-formed store: definitions in specs/ and laws in proofs/, for
-- every crate above.
pub mod NamingLaws
pub mod AppendLaws
pub mod WithNameLaws
pub mod NodeLaws
pub mod BeyondLaws
pub mod AddingLaws
