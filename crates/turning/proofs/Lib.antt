pub mod Turned
pub mod Steps
pub mod OneTurn
pub mod Counting
pub mod PassesOn
