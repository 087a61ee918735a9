pub mod Labels
pub mod Frames
