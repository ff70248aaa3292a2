pub mod WalkLaws
pub mod ChooseLaws
