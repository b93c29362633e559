pub mod Blocks
pub mod CodeFacts
pub mod PairLists
