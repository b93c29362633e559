pub mod KeyLemmas
pub mod LegalLemmas
pub mod NameLemmas
