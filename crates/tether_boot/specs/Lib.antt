-- From the loaded memory to the program's first step.
pub mod Booting
-- What a host turn comes to on the way.
pub mod Handing
