pub mod Inputs
pub mod Lower
pub mod OneHistory
pub mod Outputs
pub mod Processes
pub mod Queue
