-- The definitions: the hex notation, what a file denotes, what a call that reads or writes takes, leaves and answers.
pub mod HexText
pub mod Base64Text
pub mod FileMeaning
pub mod Decoding
pub mod FileReading
pub mod Writing
