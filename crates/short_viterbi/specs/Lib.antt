pub mod Soft
