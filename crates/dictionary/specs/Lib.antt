pub mod Same
pub mod Dictionary
pub mod Kept
pub mod Verdicts
pub mod Names
pub mod Named
