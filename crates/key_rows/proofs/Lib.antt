pub mod FlatLemmas
pub mod KeyFront
pub mod MovedBytes
