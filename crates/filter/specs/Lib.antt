pub mod Sample
pub mod Sound
pub mod Calls
pub mod Lent
