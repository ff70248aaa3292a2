pub mod CarriedLaws
pub mod SetLaws
pub mod HomeLaws
pub mod RowLaws
