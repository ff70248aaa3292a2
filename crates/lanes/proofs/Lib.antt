pub mod SqueezeLaws
pub mod LiveLaws
