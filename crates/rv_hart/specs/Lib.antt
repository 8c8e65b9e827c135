pub mod Accesses
pub mod HartStep
pub mod LinedStep
pub mod Walks
pub mod Laws
