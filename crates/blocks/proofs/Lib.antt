pub mod BlockLaws
pub mod KeepLaws
pub mod FindLaws
pub mod SelectLaws
