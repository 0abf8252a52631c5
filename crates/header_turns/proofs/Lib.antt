pub mod AxesLaws
pub mod FrameLaws
pub mod MeanLaws
pub mod SentLaws
pub mod TurnLaws
