pub mod Pins
pub mod Fields
pub mod Pages
pub mod Remaining
pub mod Yields
pub mod Closing
