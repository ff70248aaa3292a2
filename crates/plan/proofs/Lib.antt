pub mod OutputLaws
pub mod Input
