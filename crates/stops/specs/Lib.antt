pub mod Tables
pub mod Legs
pub mod Bounds
pub mod Stops
pub mod Away
pub mod Examples
pub mod Code
