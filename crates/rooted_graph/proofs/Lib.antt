pub mod Firsts
pub mod Places
pub mod Orders
pub mod Targets
pub mod Reached
pub mod Queues
pub mod Zips
pub mod Matchings
pub mod Ends
pub mod Equality
pub mod Ordered
pub mod Tables
pub mod Sharing
mod Examples
