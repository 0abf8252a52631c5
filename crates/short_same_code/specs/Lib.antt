pub mod Agree
pub mod IsdbCode
pub mod SameLaws
pub mod Alike
