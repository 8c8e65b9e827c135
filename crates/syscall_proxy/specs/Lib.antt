-- What to believe: what a host keeps, the rows of the call table as texts, and what they are made of.
pub mod Kept
pub mod Rows
pub mod OpenFlags
pub mod PathRules
pub mod StatRecord
pub mod Request
pub mod DataRows
pub mod NumberRows
pub mod PathRows
pub mod RecordRows
pub mod CallTable
pub mod Worlds
pub mod Streams
pub mod RowShapes
-- What the clauses of the code cite.
pub mod Follows
-- Laws of these definitions.
pub mod WorldLaws
pub mod ShapeRows
pub mod LeadRows
pub mod DataLaws
pub mod NumberLaws
pub mod PathLaws
pub mod RecordLaws
pub mod CallLaws
pub mod StreamRows
pub mod HostLaws
pub mod Acted
pub mod StreamLaws
pub mod HostRow
pub mod Laws
