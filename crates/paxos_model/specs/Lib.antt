pub mod Acceptor
pub mod Leader
pub mod Learner
pub mod Majority
pub mod Payloads
pub mod Values
pub mod Votes
