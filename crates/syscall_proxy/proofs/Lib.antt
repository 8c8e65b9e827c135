pub mod Doublewords
pub mod Fronts
pub mod Leaves
pub mod MainVarsLemmas
mod TableLaws
