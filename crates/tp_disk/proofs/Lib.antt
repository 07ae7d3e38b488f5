pub mod Lower
pub mod Moments
pub mod Calls
pub mod Torn
pub mod Agree
pub mod Pieces
pub mod Readings
pub mod FileState
