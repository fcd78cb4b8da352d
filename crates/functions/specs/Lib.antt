pub mod Words
pub mod Functions
pub mod Classes
pub mod Decompositions
pub mod Laws
