pub mod Follows
pub mod Orders
