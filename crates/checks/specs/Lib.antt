pub mod Numbers
pub mod Tails
pub mod Lettered
pub mod RowOrder
pub mod ByteState
