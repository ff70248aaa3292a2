pub mod Promise
pub mod Code
