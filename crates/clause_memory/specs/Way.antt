-- Definitions that say how the code goes. No promise rests on them.
pub mod PackedClause
pub mod Plain
pub mod Taken
