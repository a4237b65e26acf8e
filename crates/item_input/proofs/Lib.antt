pub mod OneReading
pub mod PlainSoFar
pub mod SoFar
