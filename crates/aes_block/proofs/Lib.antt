-- The lemmas that the proofs of this crate share.
pub mod ColumnRounds
pub mod ColumnWords
pub mod Multiplying
pub mod Tables
