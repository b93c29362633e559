pub mod FileLemmas
pub mod LawLemmas
pub mod ListLemmas
pub mod OneTable
pub mod ShapeLemmas
pub mod WriteLemmas
