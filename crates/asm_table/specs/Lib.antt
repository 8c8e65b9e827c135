pub mod Cuts
pub mod Made
pub mod Registers
pub mod Table
