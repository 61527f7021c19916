pub mod Sizes
pub mod State
pub mod Answers
pub mod Refusal
pub mod Calls
