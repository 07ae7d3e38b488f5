pub mod Lower
mod DeviceTraced
mod EntriesTraced
mod EntriesBelow
pub mod Fit
pub mod Found
pub mod Joined
pub mod Mapped
mod Moments
mod Workspaces
pub mod Traces
mod Looked
mod Walks
mod Told
mod Tries
