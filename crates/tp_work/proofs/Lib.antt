pub mod Lower
pub mod Broken
pub mod Made
pub mod Seated
pub mod Sessions
