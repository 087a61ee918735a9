pub mod FirstItems
pub mod EndedFrames
pub mod ItemsCome
pub mod NamedEntries
pub mod Ended
pub mod Giving
pub mod OnTheWay
pub mod Faulty
