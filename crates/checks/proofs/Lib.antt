pub mod GainLaws
pub mod CheckLaws
pub mod NumberLaws
