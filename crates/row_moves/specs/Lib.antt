pub mod Orders
pub mod Moves
pub mod Seeking
