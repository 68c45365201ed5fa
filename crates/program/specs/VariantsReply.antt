-- The definitions of `variants_reply`. The text of an answer of variants in a lent buffer: its length first, then its bytes.
pub mod Text
