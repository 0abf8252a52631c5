pub mod ByteState
