pub mod Cells
pub mod Designs
pub mod Runs
