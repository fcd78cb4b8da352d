pub mod Texts
pub mod Run
