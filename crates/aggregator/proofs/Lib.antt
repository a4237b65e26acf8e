pub mod Merged
pub mod Leasts
pub mod Sound
