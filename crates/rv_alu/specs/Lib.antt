pub mod Numbers
pub mod Formulas
pub mod Effects
pub mod Causes
pub mod Laws
