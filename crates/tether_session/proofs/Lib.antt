pub mod ToldLines
pub mod Beginnings
