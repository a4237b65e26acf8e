pub mod Numbers
pub mod Makers
pub mod Ordering
pub mod Passes
pub mod Runs
pub mod Seats
pub mod Taking
