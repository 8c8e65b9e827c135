mod Rows
pub mod RowFits
