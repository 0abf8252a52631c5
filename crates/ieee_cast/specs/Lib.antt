pub mod Narrowed
pub mod Soft
pub mod NarrowLaws
pub mod ShiftLaws
pub mod SignLaws
