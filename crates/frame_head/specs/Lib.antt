pub mod Header
pub mod NumberPart
pub mod Structure
