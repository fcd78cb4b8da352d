pub mod Sizes
pub mod Parts
pub mod Entries
pub mod Shares
pub mod Pages
pub mod Tables
pub mod Packing
