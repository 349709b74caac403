-- The lemmas on the results of the calls.
pub mod Promises
pub mod Rewraps
