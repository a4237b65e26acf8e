pub mod Gatherer
