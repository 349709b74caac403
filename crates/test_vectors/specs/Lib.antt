-- What the contracts of the vectors cite.
pub mod Published
pub mod Vectors
