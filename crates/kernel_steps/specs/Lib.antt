pub mod Terms
pub mod States
pub mod Successors
pub mod Blocks
