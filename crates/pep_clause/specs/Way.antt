-- Definitions that say how the code goes. No promise rests on them.
pub mod Joined
pub mod Numbers
