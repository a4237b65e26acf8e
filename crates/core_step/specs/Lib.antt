pub mod TwoLeaders
pub mod Standing
pub mod Starting
pub mod Known
pub mod Disks
pub mod Handed
pub mod Tested
