-- Definitions that say how the code goes. No promise rests on them.
pub mod Chains
pub mod Compared
pub mod ComparedView
pub mod HeaderLines
pub mod MarkerTokens
pub mod PlainBytes
pub mod PutLetters
pub mod Slots
pub mod Token
pub mod TokenReading
pub mod Value
