pub mod Order
pub mod Room
