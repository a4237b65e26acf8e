pub mod OwnItems
pub mod Stages
pub mod Items
pub mod Lanes
pub mod Workers
pub mod Keeping
