pub mod Showing
pub mod Sending
pub mod Keeping
pub mod Stepping
pub mod Listing
pub mod Printing
pub mod Reading
