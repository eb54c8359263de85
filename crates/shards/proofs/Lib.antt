pub mod OneRefusal
pub mod SplitLines
pub mod ShardLaws
pub mod ShardTables
pub mod ToldLines
mod Witnesses
