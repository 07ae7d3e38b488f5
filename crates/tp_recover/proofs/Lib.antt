pub mod Lower
pub mod Ages
pub mod Areas
pub mod BookRoom
pub mod Cuts
pub mod CutsAreFlat
mod EntriesBefore
pub mod GroupsRead
pub mod HeldPorts
mod Leading
pub mod Leaving
pub mod Nodes
mod Openings
pub mod Passing
mod PlayedRows
pub mod Ports
mod Ranged
mod Ranges
mod ReadParts
pub mod Records
pub mod ReplayedCuts
pub mod Room
mod RowsAhead
mod RowsRead
mod RunRows
mod SplitCuts
mod Starts
mod TakenRows
mod Windows
