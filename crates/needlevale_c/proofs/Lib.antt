-- The laws of the crate `needlevale_c`.
pub mod CodeLaws
pub mod CodedLaws
pub mod PromiseLaws
pub mod ToldLaws
pub mod AddLaws
pub mod TellsLaws
pub mod CallLaws
pub mod ReadLaws
pub mod Promises
