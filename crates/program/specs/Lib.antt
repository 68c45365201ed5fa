-- The definitions of the crate `program`.
pub mod Replies
pub mod BestReply
pub mod VariantsReply
pub mod Promises
pub mod Chosen
