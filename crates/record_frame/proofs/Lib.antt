pub mod FieldLaws
pub mod Reasons
pub mod EntryLaws
pub mod LengthLaws
pub mod ValueLaws
