-- Definitions that say how the code goes. No promise rests on them.
pub mod EntryReading
pub mod Gathered
pub mod KnownNames
pub mod Printout
pub mod ReadText
pub mod TableReading
pub mod TextLines
