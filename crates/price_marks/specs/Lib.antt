-- The definitions of the crate `price_marks`: marks of rows, and of each class the children that are it.
pub mod Marks
pub mod Links
pub mod Passes
