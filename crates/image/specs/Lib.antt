pub mod Layout
pub mod Image
pub mod Load
pub mod Calls
pub mod Result
