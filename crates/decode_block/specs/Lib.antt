pub mod Blocks
pub mod PeriodLaws
