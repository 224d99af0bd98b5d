-- The calls over the lent level store.
pub mod Turns
pub mod StoreView
pub mod KeptReading
pub mod ReadingCheck
pub mod SplitFeeds
pub mod OneAnswer
pub mod Opens
pub mod Whole
pub mod ZeroBook
pub mod BookBits
pub mod Took
