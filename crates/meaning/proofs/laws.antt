-- Laws of the words in which the definitions are written, and of feeding over any step.
pub mod Answered
pub mod Handed
pub mod Bools
pub mod Truths
pub mod Events
pub mod Tables
pub mod FeedLaws
pub mod FeedKeeps
pub mod Following
