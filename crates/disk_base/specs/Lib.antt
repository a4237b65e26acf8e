pub mod Content
pub mod Images
pub mod InMemory
pub mod Lending
pub mod Moments
pub mod Racks
pub mod Replay
