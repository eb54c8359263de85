pub mod CallLemmas
pub mod ClauseListLemmas
pub mod EachText
pub mod JudgedMarkers
pub mod KeyLemmas
pub mod PartLemmas
pub mod QuestionLemmas
pub mod RangeLemmas
pub mod RefusedLines
pub mod WithinLemmas
mod Witnesses
