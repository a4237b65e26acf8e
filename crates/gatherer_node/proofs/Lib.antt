pub mod Due
pub mod Heard
pub mod Letters
pub mod EventSizes
