pub mod RowLaws
pub mod BothHalves
