pub mod Takes
pub mod ReadBody
