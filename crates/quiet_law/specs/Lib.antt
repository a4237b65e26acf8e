pub mod Matching
pub mod Going
pub mod Quiet
pub mod Worked
