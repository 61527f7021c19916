pub mod ByteLaws
pub mod LibraryLaws
pub mod PutLaws
