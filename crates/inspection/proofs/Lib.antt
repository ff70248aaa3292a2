pub mod OrderLaws
pub mod SetLaws
pub mod PathLaws
pub mod Retrace
pub mod FigureLaws
pub mod ExtendLaws
