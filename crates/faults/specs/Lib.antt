pub mod Code
pub mod InnerFault
pub mod FaultLine
pub mod NoMemory
