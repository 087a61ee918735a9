pub mod Appending
pub mod Numbers
pub mod Rests
pub mod ClosedLemmas
pub mod FitLemmas
