-- The definitions of many blocks.
pub mod Blocks
