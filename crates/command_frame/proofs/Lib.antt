pub mod FrameLaws
pub mod ItemLaws
pub mod Limits
pub mod LineLengths
pub mod MadeItems
pub mod ReadingLaws
