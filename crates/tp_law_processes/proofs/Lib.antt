pub mod Lower
mod Accepted
mod Changes
mod FreshPorts
mod Handing
mod Histories
mod Inputs
mod Joined
mod Makers
mod OneInput
mod Outputs
mod Parts
mod Queue
mod Shows
mod Stops
