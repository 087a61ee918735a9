pub mod Accepted
pub mod CommonBytes
pub mod FirstBytes
pub mod HeaderBytes
