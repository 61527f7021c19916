pub mod Limits
pub mod Settings
pub mod Fir
pub mod Output
pub mod Decision
pub mod Error
pub mod Sound
