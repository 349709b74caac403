-- The definitions of the lanes.
pub mod Lanes
pub mod LaneStep
