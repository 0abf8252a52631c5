pub mod EncodeQpsk
pub mod EncodeTc8psk
pub mod Windowed
