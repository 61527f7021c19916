pub mod Readings
pub mod Taken
pub mod Calls
