-- The laws of how a table is written in bits: an accepted file is its table's bits, and no other.
pub mod SpellLaws
pub mod PartsSpell
pub mod FileSpell
pub mod ExtendLaws
