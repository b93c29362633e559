pub mod FileLemmas
pub mod ListingLemmas
