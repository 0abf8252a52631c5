pub mod Halfway
