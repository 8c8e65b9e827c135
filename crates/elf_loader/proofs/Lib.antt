pub mod Accepted
pub mod Meetings
pub mod Table
pub mod Texts
pub mod Walks
pub mod UserArea
