-- The laws of the crate `table_roots`.
pub mod TableLaws
pub mod RootLaws
pub mod CallLaws
pub mod KeyedLaws
pub mod VariantRootLaws
pub mod VariantCallLaws
pub mod ChosenLaws
