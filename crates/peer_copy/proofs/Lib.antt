pub mod Fresh
pub mod Spans
