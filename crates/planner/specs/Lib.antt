pub mod Code
pub mod Promise
pub mod Demands
