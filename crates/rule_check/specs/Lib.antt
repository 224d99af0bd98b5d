-- What the contracts of the check program cite.
pub mod BlockRead
pub mod Failing
pub mod Again
