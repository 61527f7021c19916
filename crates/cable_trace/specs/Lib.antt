pub mod Limits
pub mod Cable
pub mod Calls
pub mod Answers
pub mod Reading
pub mod Refusal
pub mod Lent
