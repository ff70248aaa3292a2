pub mod WalkLaws
pub mod LaneLaws
pub mod JoinLaws
pub mod ChainLaws
pub mod RelinkLaws
pub mod TrimLaws
