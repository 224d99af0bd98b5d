-- The rule file: what an accepted file is, and the round trip.
pub mod Accepted
pub mod RoundTrip
