-- Lemmas that several calls share.
pub mod CallPromises
pub mod KekForms
pub mod Finding
pub mod AnyForm
pub mod KnownAnswers
pub mod Lengths
pub mod Rewraps
pub mod Endings
pub mod Slots
pub mod RewrapCalls
pub mod Lanes
pub mod LaneKinds
