-- The definitions.
pub mod Texts
pub mod Kinds
pub mod Rewraps
