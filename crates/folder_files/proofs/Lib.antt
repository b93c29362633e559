pub mod LastSlash
pub mod SameFolder
