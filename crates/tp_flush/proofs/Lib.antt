pub mod Lower
mod Looks
pub mod Kept
pub mod Made
pub mod Recovers
mod Rises
mod Appends
mod Begins
pub mod Turns
mod Endings
mod Goings
mod Imaging
mod Puts
mod Closed
mod Gone
mod Devices
mod Standing
mod Beside
pub mod Settling
mod Handing
pub mod All
mod Ahead
mod Switches
mod Tails
mod Trimming
mod SwitchingCalls
mod SwitchingEnds
mod Reasons
mod Rooms
mod Forms
mod Breaking
pub mod Follows
pub mod Weaker
