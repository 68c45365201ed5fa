-- The laws of room: what is built fits, and is refused only where no store of that room holds it.
pub mod CountLaws
pub mod HoldLaws
pub mod AppendLaws
pub mod StepLaws
pub mod BuildLaws
pub mod WholeLaws
