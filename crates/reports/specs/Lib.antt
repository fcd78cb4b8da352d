pub mod Words
pub mod Checked
