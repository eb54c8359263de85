pub mod Lists
pub mod Bytes
pub mod Space
pub mod Runs
pub mod Limits
pub mod Lines
pub mod TextOut
pub mod Way
