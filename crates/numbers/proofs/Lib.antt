pub mod CutLaws
pub mod BitLengthLaws
pub mod ScaleCountLaws
