pub mod Answers
pub mod Calls
pub mod Claim
pub mod Swapped
