pub mod Nodes
pub mod Answers
pub mod Examples
pub mod Charges
pub mod Away
