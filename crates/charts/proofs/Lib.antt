pub mod Meanings
pub mod ClassLists
pub mod Numberings
pub mod Stretches
pub mod Exchanges
pub mod Recodes
pub mod Inversions
