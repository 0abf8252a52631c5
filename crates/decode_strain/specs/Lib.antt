pub mod Counted
pub mod Windows
pub mod CountingLaws
pub mod Pieces
