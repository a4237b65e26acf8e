pub mod Crashes
pub mod Orders
pub mod Records
pub mod Runs
pub mod Tearing
