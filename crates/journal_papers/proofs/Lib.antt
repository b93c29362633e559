pub mod KeyLemmas
pub mod OtherWords
