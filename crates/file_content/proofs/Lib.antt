pub mod Brought
pub mod GivenKinds
pub mod Judging
pub mod Scanning
pub mod OneContent
pub mod WholeFiles
pub mod WholeContents
pub mod Begun
