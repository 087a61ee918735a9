pub mod Graphs
pub mod OneOrder
pub mod SameOrder
pub mod OneFile
pub mod Spelled
pub mod EndSizes
pub mod Sizes
pub mod RenumberedLinks
pub mod RenumberedWalk
pub mod RenumberedHeader
pub mod RenumberedChannels
pub mod RenumberedTable
pub mod Bare
pub mod BareFrames
pub mod UsedEntries
pub mod UsedFrames
pub mod UsedSplices
pub mod Sample
mod Examples
mod ExampleFrame
mod ExampleFrames
mod ExampleClashes
pub mod Printing
