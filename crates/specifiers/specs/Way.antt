-- Definitions that say how the code goes. No promise rests on them.
pub mod Ends
