pub mod Turn
pub mod TraceLine
pub mod Trace
pub mod Lined
pub mod TurnLaws
pub mod Puts
pub mod StepLaws
pub mod TargetLaws
