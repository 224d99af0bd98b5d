-- What the proofs of the check program share.
pub mod Transfer
pub mod Glue
pub mod Made
