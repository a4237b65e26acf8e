pub mod Rises
pub mod Failures
pub mod Stepping
pub mod Shown
pub mod Starts
