pub mod Problem
pub mod Selection
pub mod Step
pub mod Run
pub mod Examples
