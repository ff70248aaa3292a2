pub mod StopLaws
pub mod NodeLaws
pub mod NodesRead
pub mod LongerLaws
pub mod Charges
pub mod Away
