pub mod Ranges
pub mod Rules
pub mod Segment
pub mod Loaded
pub mod ProgramHeader
pub mod Faults
pub mod ElfFile
pub mod MainVars
