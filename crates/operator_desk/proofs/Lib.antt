pub mod WholeLines
pub mod LaidAnswers
pub mod ToldAnswers
