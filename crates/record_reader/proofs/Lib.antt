pub mod ListLemmas
pub mod ByteLemmas
pub mod ReadLemmas
