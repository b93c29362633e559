pub mod IndexPairs
