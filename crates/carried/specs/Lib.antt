pub mod Carried
pub mod Examples
pub mod Code
