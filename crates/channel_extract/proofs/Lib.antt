mod PassedFiles
mod OnePass
mod Rising
mod ChannelPlaces
mod BuiltPlaces
mod Following
mod FramesOfItems
mod GoodPositions
mod TableFacts
mod Agreement
mod Lies
mod Sound
mod Marks
mod Answering
mod TableStates
mod Bound
mod ExampleTaken
mod PassedClosings
mod ScannedAnswers
pub mod CutLinks
pub mod CutFrames
pub mod EqualCuts
pub mod RelinkedCuts
pub mod WritableCuts
pub mod GivenCuts
pub mod RefusedCuts
pub mod DueScans
pub mod WholeScans
pub mod SameScans
pub mod RootsOfCuts
pub mod KeptExtractions
mod ExampleCuts
mod ExampleScans
pub mod Relinking
pub mod RelinkedRows
pub mod ChannelTargets
pub mod CutRows
pub mod KeptRecords
pub mod CutSegments
pub mod NoLoose
