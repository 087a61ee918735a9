pub mod Entries
pub mod Sample
pub mod Whole
pub mod Laws
pub mod Drafts
pub mod Lent
pub mod Made
pub mod Put
