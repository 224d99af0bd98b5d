-- The laws that the proofs of the making cite: sets as words, the tables walked, rounds, the set of the tree start, the words of
-- the book, the answers.
pub mod Standing
pub mod Walked
pub mod InRounds
pub mod EndSet
pub mod Reached
pub mod BookWords
pub mod Makes
