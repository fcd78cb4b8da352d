pub mod Networks
pub mod Written
pub mod Page
pub mod Laws
pub mod Views
