pub mod AccessLemmas
pub mod RegisterLemmas
pub mod LinedLaws
pub mod CountLaws
pub mod CsrLaws
pub mod RangeLaws
pub mod WalkLaws
