pub mod Pieces
pub mod WholeFile
