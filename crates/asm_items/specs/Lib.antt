pub mod Names
pub mod ItemMeaning
pub mod LabelMap
pub mod Printable
