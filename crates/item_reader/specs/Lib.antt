-- what callers cite
pub mod Reader
pub mod Given
pub mod Looked
-- of the inside: what is kept, and how a structure is judged
pub mod Placed
pub mod Roles
pub mod State
pub mod Judged
pub mod Entries
pub mod Cursor
pub mod Errors
