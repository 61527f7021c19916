pub mod TextAtLaws
pub mod DecimalLaws
pub mod LineLaws
pub mod BufferLaws
pub mod BlockLaws
pub mod TextLaws
pub mod TraceLaws
pub mod WorkedExample
