pub mod Instructions
pub mod Items
pub mod Laws
pub mod Reading
pub mod Texts
