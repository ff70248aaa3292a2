pub mod OrderLaws
pub mod RefusalLaws
pub mod CauseLaws
pub mod PairLaws
