pub mod AnswerLemmas
pub mod Gathering
pub mod KindLemmas
pub mod Numbers
pub mod OrderLemmas
pub mod ReadLemmas
pub mod ShownLemmas
pub mod TextLemmas
