pub mod BackLaws
pub mod SettleLaws
