pub mod Registers
pub mod RegisterLaws
