pub mod MessageBytes
pub mod TrapSteps
pub mod TrapWalk
pub mod TrapAgreed
pub mod TrapLaws
