-- what callers cite
pub mod Collected
pub mod Graph
pub mod Relinked
pub mod Unlinked
-- of the inside: how records, their index, bodies and targets are kept
pub mod Kept
pub mod Index
pub mod Table
