pub mod Calls
pub mod States
pub mod Answers
pub mod Histories
pub mod Judged
pub mod Kept
pub mod Refusals
