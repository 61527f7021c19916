pub mod LayoutLaws
pub mod WordLaws
pub mod ImageLaws
pub mod StateBits
pub mod LoadLaws
pub mod FrameLaws
pub mod LoadAnswers
