pub mod StorageState
pub mod Preparing
pub mod Replies
pub mod Opening
pub mod Turning
pub mod Counting
pub mod Tested
