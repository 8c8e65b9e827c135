pub mod Unbegun
pub mod Followed
pub mod Images
pub mod Begun
pub mod BootWaits
pub mod BootServed
pub mod BootLaws
