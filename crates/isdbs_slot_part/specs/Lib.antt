pub mod SlotPart
