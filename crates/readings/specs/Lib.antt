pub mod Limits
pub mod Readings
pub mod Answers
pub mod Holds
pub mod Calls
pub mod Lent
