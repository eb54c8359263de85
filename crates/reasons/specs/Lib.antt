pub mod Claims
pub mod Places
pub mod Clash
pub mod View
pub mod ReasonText
pub mod Way
