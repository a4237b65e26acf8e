pub mod Apart
pub mod Cutting
pub mod Growing
pub mod Keeping
pub mod Newest
pub mod Stretches
pub mod Walks
