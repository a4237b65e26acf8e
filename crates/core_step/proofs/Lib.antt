pub mod TwoLeaders
pub mod Roles
pub mod Marks
pub mod Replicas
pub mod Orderers
pub mod Gatherers
pub mod Flights
pub mod Handing
