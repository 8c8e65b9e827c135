-- What stands beside the direct run between two acts of the host.
pub mod Hands
-- Host turns one after the other, with what the host notes, and what they come to.
pub mod HostTurns
-- A whole session, from reset to its answer.
pub mod Sessions
