pub mod CopyLaws
pub mod RunLaws
pub mod AnswerLaws
pub mod StarredCases
pub mod Claim
pub mod NumberLaws
pub mod Swapped
