pub mod Connectives
pub mod SplitLemmas
pub mod ListLemmas
pub mod SpaceLemmas
pub mod RunLemmas
pub mod CutLists
pub mod LineLemmas
pub mod HeadLemmas
pub mod OuterBlanks
pub mod ArenaLemmas
pub mod Results
mod Witnesses
