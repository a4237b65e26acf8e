pub mod CourseLaws
pub mod HistoryPieces
pub mod JudgeLaws
pub mod NextLaws
pub mod OneMeaning
pub mod OneVerdict
pub mod WrittenLaws
