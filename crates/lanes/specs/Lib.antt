pub mod Sizes
pub mod Code
pub mod Layouts
