pub mod Asked
pub mod CommandLine
pub mod Made
pub mod Refused
pub mod Said
pub mod Windows
