mod Counting
mod Files
mod Giving
mod Kept
mod MemCalls
mod Untold
mod Written
pub mod Places
pub mod Reading
pub mod Slots
pub mod Writing
