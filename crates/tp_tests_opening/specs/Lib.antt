pub mod Lower
pub mod CanCount
pub mod Nets
pub mod TailOf
pub mod Usable
