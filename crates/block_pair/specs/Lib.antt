pub mod Words
pub mod Pair
pub mod Metered
pub mod Each
pub mod Halves
pub mod HalvesLaw
