-- The laws of the file of a table: every table within the limits has one, and the longest has 21,385 bytes.
pub mod BackLaws
pub mod SortsBack
pub mod FunctionsBack
pub mod RowsBack
pub mod FileBack
pub mod BytesLaws
pub mod LongestLaws
