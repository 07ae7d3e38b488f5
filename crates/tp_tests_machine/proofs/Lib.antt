pub mod Lower
mod Taking
