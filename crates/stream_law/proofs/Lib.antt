pub mod Takings
pub mod Streaming
pub mod Finding
pub mod Standing
pub mod Going
pub mod Serving
