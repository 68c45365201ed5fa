-- The definitions of the crate `c_told`.
pub mod Below
pub mod Choices
pub mod Files
pub mod Terms
pub mod Texts
