-- The lemmas: parts of a buffer, and the step of a lane.
pub mod Parts
pub mod LaneSteps
pub mod Results
