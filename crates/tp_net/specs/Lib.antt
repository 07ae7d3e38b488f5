pub mod Lower
pub mod Ends
pub mod Steps
pub mod NodeNames
pub mod Parts
