pub mod CauseLaws
pub mod StartLaws
pub mod TurnLaws
pub mod SearchLaws
pub mod EndLaws
pub mod Returns
