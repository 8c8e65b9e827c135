pub mod Alone
pub mod Bytes
pub mod Causes
pub mod Commands
pub mod Handlers
pub mod Mailboxes
pub mod Places
pub mod Turns
