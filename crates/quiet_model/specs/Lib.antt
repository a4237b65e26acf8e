pub mod Moments
pub mod Settled
pub mod Ahead
pub mod Deciding
pub mod Opening
