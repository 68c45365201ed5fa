-- The laws of the crate `decimal`.
pub mod DigitLaws
pub mod SignLaws
pub mod WrittenLaws
pub mod Cases
