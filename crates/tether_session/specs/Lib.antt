-- What is done over real objects is done over what they tell.
pub mod RealLines
-- What is written before the first host turn.
pub mod Begins
