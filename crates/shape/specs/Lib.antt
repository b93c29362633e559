pub mod Indexes
pub mod Keys
pub mod Lists
pub mod Names
pub mod Tables
pub mod Whole
