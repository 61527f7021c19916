pub mod Cut
pub mod BitLength
pub mod ScaleCount
