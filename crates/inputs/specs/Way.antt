-- Definitions that say how the code goes. No promise rests on them.
pub mod GatheredLines
pub mod LineReading
pub mod Part
pub mod TakenTexts
pub mod Wanted
