pub mod KeptSets
pub mod CollectedTexts
pub mod ValidEntries
pub mod TakenClauses
pub mod PartialJoins
pub mod KeptVersions
pub mod JoinedItems
pub mod Answers
pub mod Verdicts
pub mod EntryTexts
pub mod SameLemmas
pub mod OwnEntry
pub mod LineSets
pub mod LineParts
mod Witnesses
