pub mod Followed
pub mod Placed
pub mod Beginning
pub mod Drawing
