pub mod Numbers
pub mod Layout
pub mod HeadLayout
pub mod PageLayout
