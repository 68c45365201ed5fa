-- The laws of `prepare`.
pub mod RootLaws
pub mod FlatLaws
pub mod StandLaws
