-- Definitions that say how the code goes. No promise rests on them.
pub mod Apart
pub mod Asked
pub mod ClaimSearch
pub mod ClashSearch
pub mod ReasonSearch
