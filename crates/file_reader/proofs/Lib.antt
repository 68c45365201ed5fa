-- The laws of the crate `file_reader`.
pub mod SoundLaws
pub mod TableSteps
