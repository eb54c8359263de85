pub mod Clause
pub mod Valid
pub mod Admits
pub mod Operator
pub mod ClauseView
pub mod Front
pub mod Code
pub mod Way
