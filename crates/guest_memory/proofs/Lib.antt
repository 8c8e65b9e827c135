pub mod AreaLemmas
pub mod BeatLemmas
pub mod BusLemmas
pub mod MemoryLemmas
pub mod PartLemmas
pub mod Steps
