pub mod Codes
pub mod Counting
pub mod Reflected
pub mod Tables
pub mod Limits
pub mod TableLaws
pub mod RuleLaws
