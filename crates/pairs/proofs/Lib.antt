pub mod PairLaws
pub mod FileLaws
pub mod LoopLaws
pub mod GoodFile
