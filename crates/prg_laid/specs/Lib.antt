pub mod ByNumber
pub mod Layout
pub mod Whole
