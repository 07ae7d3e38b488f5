pub mod Lower
mod Premise
pub mod Gathered
pub mod Answered
pub mod Failures
pub mod Faults
pub mod HandedOver
pub mod Made
pub mod Called
pub mod Runs
pub mod Reasons
pub mod Rested
mod Shown
pub mod Slips
pub mod Compacts
pub mod Worked
