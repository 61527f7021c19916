pub mod Decimal
pub mod Buffers
pub mod Text
pub mod TextFront
pub mod Calls
