pub mod Tables
pub mod Says
pub mod Checks
pub mod Places
pub mod Laid
