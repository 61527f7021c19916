pub mod ValueLaws
pub mod FoldLaws
pub mod ListLaws
pub mod ReadableLaws
pub mod ReadingsHold
pub mod WorkedReadings
