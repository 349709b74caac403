-- What the contracts of the arguments cite.
pub mod Given
