-- What the contracts of the making cite.
pub mod Sets
pub mod Members
