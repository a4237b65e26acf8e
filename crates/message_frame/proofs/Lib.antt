pub mod VoteLoop
pub mod Parts
pub mod Groups
pub mod VoteLaws
pub mod KindLaws
pub mod MessageLaws
pub mod Sizes
