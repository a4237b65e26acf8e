pub mod Answers
pub mod Known
pub mod OneRefusal
pub mod Pairs
pub mod Safe
