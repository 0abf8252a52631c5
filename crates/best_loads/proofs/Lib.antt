pub mod ExactLaws
pub mod FitLaws
pub mod HeldLaws
pub mod KnownEndLaws
pub mod LoadLaws
pub mod MarkLaws
pub mod OnlyLaws
pub mod SlotLaws
