pub mod ListLemmas
pub mod IndexLemmas
pub mod ExactLemmas
