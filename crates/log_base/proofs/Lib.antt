pub mod Cuts
pub mod Legal
pub mod Rooms
pub mod Taking
pub mod Wide
