-- Lemmas on how a run ends.
mod Buffers
mod Committed
mod Ending
