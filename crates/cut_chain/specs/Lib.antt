pub mod Covering
pub mod Kept
pub mod Known
pub mod Runs
pub mod Walk
