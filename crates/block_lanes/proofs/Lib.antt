-- The lemmas.
pub mod Written
