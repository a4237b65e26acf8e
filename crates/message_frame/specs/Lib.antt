pub mod Spelling
pub mod Sizes
pub mod Reading
