pub mod Nearest
pub mod Exchanges
pub mod First
pub mod Request
pub mod Examples
