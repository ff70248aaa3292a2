pub mod Days
pub mod Code
pub mod Examples
