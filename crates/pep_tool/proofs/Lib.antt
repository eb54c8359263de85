pub mod Refusals
pub mod RunFiles
