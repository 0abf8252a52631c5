pub mod PackedLaws
pub mod ChoiceLaws
