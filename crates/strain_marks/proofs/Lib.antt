pub mod Above
pub mod Order
pub mod MarksLaws
pub mod SlotsLaws
pub mod StrainLaws
