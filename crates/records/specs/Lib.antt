pub mod Records
pub mod Examples
pub mod Code
