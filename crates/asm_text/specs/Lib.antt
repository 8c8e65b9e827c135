pub mod Faults
pub mod FirstFault
pub mod Layout
pub mod Pieces
pub mod Printing
pub mod Reading
pub mod Texts
