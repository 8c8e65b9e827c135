pub mod AloneLaws
pub mod Leaves
pub mod PlaceLaws
pub mod TurnLemmas
