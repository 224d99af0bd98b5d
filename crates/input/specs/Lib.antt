pub mod Decoding
pub mod Says
