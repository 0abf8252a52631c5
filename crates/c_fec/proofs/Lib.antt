pub mod Decoders
