pub mod Starts
pub mod Covering
