-- The definitions: the lines of a text, what a line denotes, what a call takes of them, and what a run over them does.
pub mod Block
pub mod LineAnswers
pub mod LineMeaning
pub mod LineReading
pub mod Lines
pub mod Running
pub mod Summary
