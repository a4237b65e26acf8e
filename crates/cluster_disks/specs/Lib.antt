pub mod Failing
pub mod Found
pub mod Lent
pub mod Nodes
pub mod Opened
