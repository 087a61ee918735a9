pub mod Gives
pub mod Given
pub mod Closings
pub mod Laws
