pub mod Ballots
pub mod Merging
pub mod Payloads
pub mod Same
