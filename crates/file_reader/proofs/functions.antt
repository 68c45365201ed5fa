-- The laws of `functions`.
pub mod FunctionSteps
pub mod FunctionLoop
