-- Definitions that say how the code goes. No promise rests on them.
pub mod Finished
pub mod Judged
pub mod KeptVersions
pub mod LineDemands
pub mod LineSets
pub mod Others
pub mod PartialJoins
