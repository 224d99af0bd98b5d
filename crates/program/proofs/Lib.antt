-- What is proved of the definitions that the contracts cite.
pub mod Feeds
pub mod Laying
pub mod Decimals
pub mod Blocks
pub mod Rooms
pub mod OwnBooks
pub mod Prints
