pub mod Lower
pub mod Act
pub mod Hex
pub mod Lines
pub mod Names
pub mod Others
pub mod Steps
pub mod Stops
