-- What to believe of a session: its place and what agrees there, its text, and the tethered run.
pub mod Place
pub mod Texts
pub mod ToldActs
pub mod Tethered
-- What is done over a target is done over what is seen of it.
pub mod Seen
-- What holds while the host handles a call, before it, and behind it.
pub mod Waiting
pub mod Serving
pub mod Between
pub mod Behind
pub mod Own
-- Words at one moment, and the count of user steps.
pub mod SeenWords
-- What holds while the kernel and the program are loaded.
pub mod Loading
