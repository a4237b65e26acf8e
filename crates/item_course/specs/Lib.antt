pub mod Asking
pub mod Pairs
