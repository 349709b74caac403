-- A vector, and what a table says of it.
use Rattle.std.specs.Prelude.{ℕ, List}
use Rattle.test_vectors.specs.declared.table.Algorithm.{Algorithm}
use Rattle.test_vectors.specs.declared.table.Vector.{Vector}

-- a vector: its name, what takes its input to its output, its key, its input and its output
pub record TestVector : Type 0 where
  pub name : List ℕ
  pub algorithm : Algorithm
  pub key : List ℕ
  pub input : List ℕ
  pub output : List ℕ

-- a vector of a table, in these words
abbrev pub shown : Vector → TestVector
shown v = record {
  name = v.name.now;
  algorithm = v.algorithm;
  key = v.key.now;
  input = v.input.now;
  output = v.output.now;
}
