pub mod Documents
pub mod Placed
pub mod ReadTexts
pub mod Projects
pub mod ProjectExtras
pub mod ProjectTexts
pub mod EqualExtras
pub mod EnvironmentPairs
pub mod GroupArrays
pub mod GroupEnds
pub mod GroupLaws
pub mod GroupSteps
pub mod GroupTables
pub mod GroupViews
pub mod FewLevels
pub mod NestingRuns
mod Witnesses
