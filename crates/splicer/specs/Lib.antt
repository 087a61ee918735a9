pub mod Left
pub mod Due
pub mod Errors
pub mod Made
pub mod Put
pub mod Drawn
pub mod Spliced
pub mod Laws
