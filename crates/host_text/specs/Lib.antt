-- What to believe: texts, what it is to follow one, the acts of the objects, the world, and what a text does over told contents.
pub mod Text
pub mod Played
pub mod Outside
pub mod World
pub mod Runs
pub mod Shapes
pub mod Leads
pub mod Openings
pub mod Acting
-- Laws of these definitions, which the clauses and proofs of crates above cite.
pub mod Laws
pub mod Ports
pub mod RunLaws
pub mod Refusals
pub mod LeadLaws
pub mod Causes
pub mod Blames
pub mod Told
pub mod Steady
pub mod Streams
pub mod SurePorts
