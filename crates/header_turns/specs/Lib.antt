pub mod SignLaws
pub mod Turning
pub mod Sent
pub mod Examples
pub mod FoundLaws
