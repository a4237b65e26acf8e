pub mod ClusterShape
pub mod Draws
pub mod Machines
pub mod Outgoing
pub mod Outside
pub mod Shape
pub mod Wide
