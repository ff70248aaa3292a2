pub mod DraftLaws
pub mod DigitLaws
pub mod PrintedLaws
