pub mod Table
pub mod TableLaws
pub mod Puncture
pub mod SizeLaws
pub mod NumberLaws
pub mod WrittenLaws
