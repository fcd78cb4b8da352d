pub mod Table
pub mod Page
pub mod Written
pub mod Calls
