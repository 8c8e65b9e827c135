-- What holds from a trap that is no call until the exit behind its message was handled.
pub mod Saying
pub mod Handling
