pub mod Courses
pub mod Judging
pub mod Verdicts
pub mod Written
