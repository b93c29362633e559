pub mod FileLemmas
pub mod KeyLemmas
pub mod ListingLemmas
pub mod NameLemmas
pub mod RefusalLemmas
pub mod ShapeLemmas
