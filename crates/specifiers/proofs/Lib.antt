pub mod FinalVersion
pub mod OperatorLemmas
pub mod FrontClauses
pub mod OneOperand
pub mod OneAnswer
pub mod ReadLemmas
pub mod Written
pub mod WrittenLemmas
pub mod AdmittedVersions
pub mod MadeClauses
mod Witnesses
