-- What the contracts of the program cite.
pub mod Arguments
pub mod Program
pub mod Session
