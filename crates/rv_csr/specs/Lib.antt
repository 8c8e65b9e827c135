pub mod CsrTable
pub mod Fields
pub mod OpenArea
pub mod Pmp
pub mod Traps
