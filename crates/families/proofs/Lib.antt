pub mod TableEntries
pub mod Assignments
pub mod ReadBack
