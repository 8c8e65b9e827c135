pub mod Words
pub mod Answers
pub mod Report
pub mod Causes
pub mod FoundFiles
pub mod Listings
pub mod Plans
pub mod Runs
