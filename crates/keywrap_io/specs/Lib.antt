-- The definitions: which bytes the adapters have left to read, or hold, and where the bytes of a run are.
pub mod Adapters
pub mod Places
