pub mod Appended
pub mod TakenLemmas
