-- The definition of a rewrapping as runs of steps.
pub mod RewrapPhases
