-- The lemmas that the proofs of this crate share.
pub mod Adding
pub mod Computed
pub mod EveryByte
pub mod KeptWords
pub mod KeyForms
pub mod Mixing
pub mod ZeroSchedules
pub mod RoundLanes
pub mod Starts
pub mod Unmixing
pub mod Vectors
pub mod XorMaps
