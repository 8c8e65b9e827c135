pub mod Soundness
pub mod GraphLaws
pub mod Rebase
pub mod Tests
