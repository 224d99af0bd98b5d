-- The check program: its input and what it prints.
pub mod Front
pub mod Fifth
pub mod Printed
