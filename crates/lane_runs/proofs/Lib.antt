-- The lemmas.
mod Legal
pub mod Batches
pub mod Finished
pub mod Fronts
pub mod Moves
pub mod Placing
pub mod Passing
pub mod KindEnds
pub mod Gathering
