pub mod Announcing
pub mod Fine
pub mod Remembering
pub mod Ordering
pub mod Deciding
pub mod Wishing
pub mod Answering
pub mod Tested
