pub mod Input
pub mod Plain
pub mod PlainSteps
pub mod Steps
