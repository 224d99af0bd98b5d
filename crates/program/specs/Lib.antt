-- What the contracts of the check program's library cite.
pub mod Passes
pub mod Texts
pub mod Bodies
