pub mod RecordOrder
pub mod Steps
pub mod Seeking
