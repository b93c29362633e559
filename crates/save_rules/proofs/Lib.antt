pub mod ApartLemmas
pub mod EndingLemmas
pub mod TableLemmas
pub mod IndexLemmas
pub mod PairLemmas
pub mod NameLemmas
pub mod ReplacedLemmas
