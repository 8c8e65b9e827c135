pub mod Bus
pub mod Lending
pub mod LendsBytes
pub mod LendsPart
pub mod Memory
pub mod MemoryLaws
pub mod Ownership
