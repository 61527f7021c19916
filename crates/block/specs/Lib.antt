pub mod Block
pub mod Sound
pub mod Line
pub mod Calls
pub mod Swapped
pub mod Lists
