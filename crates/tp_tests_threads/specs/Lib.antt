pub mod Lower
pub mod Spelt
