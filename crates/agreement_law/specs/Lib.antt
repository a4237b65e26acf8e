pub mod Elements
pub mod Fine
pub mod Invariant
pub mod Quorum
pub mod Statements
pub mod World
