pub mod Signs
pub mod Branches
pub mod BranchLaws
pub mod SignLaws
pub mod TableLaws
