pub mod Alignment
pub mod Fields
pub mod Fits
pub mod InsnTable
