pub mod Answers
pub mod Index
pub mod Indexed
pub mod Journals
pub mod Lists
pub mod Replica
pub mod Rows
pub mod Telling
