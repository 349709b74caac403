-- The lemmas: what digits spell, what a file denotes, what a call took, and the line that is read back.
pub mod Common
pub mod Denoting
pub mod Lists
pub mod ReadBack
mod Whole
pub mod Strict
mod Base64
pub mod Base64Back
