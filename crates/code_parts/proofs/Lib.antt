pub mod Choices
pub mod Combine
pub mod Loops
pub mod Numbers
pub mod ShapeLaws
pub mod ConstantLaws
pub mod StateLaws
pub mod InstrLaws
