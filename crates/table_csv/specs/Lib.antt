pub mod Cells
pub mod Written
