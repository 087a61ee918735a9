pub mod SameLemmas
pub mod RedefinedLemmas
pub mod KeptLemmas
pub mod CloneLemmas
pub mod NameLemmas
pub mod NamedLemmas
