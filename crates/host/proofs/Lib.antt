pub mod Same
pub mod Numbered
