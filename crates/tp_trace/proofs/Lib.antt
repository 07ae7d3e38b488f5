pub mod Lower
pub mod Bytes
pub mod Heads
pub mod OneStep
