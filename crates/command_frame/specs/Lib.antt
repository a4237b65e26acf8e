pub mod Items
pub mod Laws
pub mod Making
pub mod Reader
pub mod Reading
pub mod Streams
