pub mod Causes
pub mod Counted
pub mod Projected
