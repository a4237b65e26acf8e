pub mod Letters
pub mod Lanes
pub mod Holds
pub mod Keeping
