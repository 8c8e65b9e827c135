pub mod FirstLabels
pub mod Offsets
pub mod Progress
pub mod Spots
pub mod Totals
pub mod Lengths
