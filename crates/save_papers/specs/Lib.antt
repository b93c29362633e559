pub mod Papers
pub mod Reading
