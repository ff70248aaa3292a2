pub mod ExpandLaws
pub mod StepLaws
pub mod NodeLaws
pub mod StepShown
pub mod StepAfter
