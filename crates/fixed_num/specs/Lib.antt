pub mod Number
pub mod Words
pub mod Rounding
pub mod Arithmetic
pub mod Order
pub mod Text
pub mod Reading
pub mod Prefixes
