pub mod Computed
pub mod Fit
pub mod PlaceNames
pub mod Spelled
