pub mod Folder
pub mod Next
pub mod Promise
