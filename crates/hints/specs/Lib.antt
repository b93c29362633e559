pub mod Areas
pub mod LeftOut
pub mod Sentences
