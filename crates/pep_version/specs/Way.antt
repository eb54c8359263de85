-- Definitions that say how the code goes. No promise rests on them.
pub mod Numbers
pub mod Reading
pub mod Segments
pub mod Slices
