pub mod Lower
mod Apart
pub mod NoMaps
mod Commands
pub mod Ends
pub mod Histories
mod ImagesRead
mod Requests
mod Statuses
mod Stayed
mod Used
