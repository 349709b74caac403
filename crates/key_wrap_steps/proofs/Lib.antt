-- The lemmas on whole runs of the steps, and on the ends of the phases of a rewrapping.
pub mod Runs
pub mod RewrapPhaseEnds
