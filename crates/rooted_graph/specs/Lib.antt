pub mod Rooted
pub mod SameGraph
pub mod BreadthOrder
pub mod Looks
pub mod InOrder
pub mod GraphLaws
