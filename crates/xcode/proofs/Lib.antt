pub mod Loops
pub mod PartLaws
pub mod WholeLaws
pub mod CodeLaws
pub mod FileLaws
pub mod LegalLaws
pub mod AgainLaws
pub mod WritingLaws
