pub mod Words
pub mod Values
pub mod Rows
pub mod Columns
pub mod Classes
pub mod Negation
pub mod Decomposition
