pub mod Trace
pub mod Calls
