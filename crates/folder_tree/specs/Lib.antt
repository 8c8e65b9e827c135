-- What to believe: paths, trees, what each call does to a tree, and what an answer says.
pub mod Paths
pub mod Tree
pub mod TreeOps
pub mod Answers
-- Laws of these definitions, which the proofs of crates above need; no contract cites them.
pub mod Laws
pub mod FreeNumbers
pub mod RowLaws
pub mod RemoveLaws
pub mod RemoveDirLaws
pub mod WalkLaws
pub mod SuitLaws
