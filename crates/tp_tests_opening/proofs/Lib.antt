pub mod Lower
pub mod EachPasses
pub mod Netting
pub mod Numbered
pub mod Spelt
