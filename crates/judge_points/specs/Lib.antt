pub mod Outside
pub mod Given
