pub mod Answering
pub mod NodeAnswers
pub mod RowAnswers
pub mod Spelled
