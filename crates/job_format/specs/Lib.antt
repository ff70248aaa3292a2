pub mod Bytes
pub mod Contents
pub mod Reader
pub mod Writer
pub mod Cases
pub mod Demands
