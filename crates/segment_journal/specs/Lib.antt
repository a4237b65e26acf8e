pub mod Comparing
pub mod File
pub mod Framing
pub mod Journalled
pub mod Kept
pub mod Listed
pub mod Listing
pub mod OnDisk
