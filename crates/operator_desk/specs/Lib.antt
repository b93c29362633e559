pub mod Again
pub mod Asked
pub mod Beginnings
pub mod Held
pub mod Openings
pub mod Talked
pub mod Typings
pub mod Typists
