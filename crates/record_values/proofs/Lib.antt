pub mod Equality
pub mod LinkedLemmas
