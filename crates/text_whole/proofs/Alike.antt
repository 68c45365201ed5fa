-- The laws of `alike`. That a term's texts do not depend on how the terms are numbered.
pub mod KidLaws
pub mod TextLaws
