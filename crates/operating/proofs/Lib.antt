pub mod TurnLemmas
pub mod AnswerLemmas
pub mod PieceLemmas
pub mod PartLemmas
