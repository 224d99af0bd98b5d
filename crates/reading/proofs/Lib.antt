pub mod Conditions
pub mod Checks
pub mod Starts
pub mod WholeRead
pub mod OneOutcome
