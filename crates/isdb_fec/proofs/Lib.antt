pub mod OneCall
pub mod TwoCallLaws
pub mod WholeLaws
