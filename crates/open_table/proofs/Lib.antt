pub mod SlotLemmas
pub mod ChangeLemmas
pub mod TryingLemmas
pub mod MakingLemmas
pub mod PassLemmas
pub mod ClosingLemmas
pub mod OpenLemmas
