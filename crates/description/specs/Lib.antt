pub mod Texts
pub mod Description
pub mod Calls
pub mod Piped
