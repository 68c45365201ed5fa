-- The definitions of the crate `needlevale_c`.
pub mod Coded
pub mod Texts
pub mod Lists
pub mod Choices
pub mod Terms
pub mod Structs
pub mod Reading
pub mod Promises
