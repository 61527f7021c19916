pub mod Called
pub mod Trials
pub mod Swapped
