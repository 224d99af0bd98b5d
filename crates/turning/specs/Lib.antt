pub mod Readings
pub mod Turns
pub mod PassingOver
pub mod Advancing
