pub mod Own
pub mod Finding
pub mod Fitting
pub mod Served
