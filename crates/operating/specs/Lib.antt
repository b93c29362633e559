pub mod Talks
pub mod Answers
pub mod Asking
pub mod Parts
pub mod Pieces
