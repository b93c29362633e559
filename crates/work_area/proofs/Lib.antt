pub mod PlaceLemmas
pub mod AreaLemmas
pub mod HandedLemmas
pub mod LimitLemmas
pub mod MakingLemmas
pub mod ShapeLemmas
