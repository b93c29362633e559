mod Making
mod Rows
mod Sizes
