-- The definitions of the exports.
pub mod LaneCalls
