pub mod Answers
pub mod Due
pub mod Sides
pub mod Laws
