pub mod RefusedLaws
pub mod AcceptLaws
pub mod WriterLaws
pub mod Returns
pub mod RewriteLaws
