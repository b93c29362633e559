pub mod Orders
pub mod Printable
