pub mod Crc
pub mod CrcLaws
