-- Definitions that say how the code goes. No promise rests on them.
pub mod Collected
pub mod ExtrasParts
pub mod Kept
pub mod Sink
