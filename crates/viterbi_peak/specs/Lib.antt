pub mod Sign
pub mod SubtractLaws
