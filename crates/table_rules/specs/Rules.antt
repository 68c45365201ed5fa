-- The definitions of `rules`. What a table says to the extractor: definitions in specs/.
pub mod Classes
pub mod Rows
pub mod Order
pub mod Terms
pub mod Facts
pub mod Choosing
pub mod Prices
