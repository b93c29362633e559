pub mod Pages
pub mod Letters
