-- what callers cite
pub mod Appends
pub mod Layout
pub mod Body
pub mod Reading
pub mod Written
pub mod Respelled
pub mod BodyLaws
pub mod Lent
pub mod Plans
pub mod Links
pub mod Unlinked
pub mod BuiltIn
-- of the inside: what walks and plans keep
pub mod Names
pub mod Made
pub mod Exact
pub mod Spelled
pub mod Walking
pub mod Marks
pub mod Steps
