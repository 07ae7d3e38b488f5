pub mod Lower
pub mod CanPut
pub mod Checkpoints
pub mod CutSpelt
pub mod FormattedWorld
pub mod InGroups
pub mod OneCheckpoint
pub mod OneTurn
