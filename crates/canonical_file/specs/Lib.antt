pub mod Ranges
pub mod Bytes
pub mod Ordered
pub mod Records
pub mod Written
pub mod Contents
pub mod Splices
-- laws
pub mod FrameLaws
pub mod Sizes
pub mod Renumbered
pub mod SpliceLaws
