pub mod Floats
pub mod ValueLaws
pub mod NearestLaws
