pub mod FrontClauses
pub mod PlainClauses
