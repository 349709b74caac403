-- A block pair: a permutation of blocks, given with its inverse.
use Rattle.std.specs.Prelude.{◌≡◌, ℕ, List}
use Rattle.block_pair.specs.Words.{IsBlock}

-- E takes blocks to blocks, and so does D, and each undoes the other on every block
pub record AreInverse (E D : List ℕ → List ℕ) : Type 0 where
  pub encrypts : (b : List ℕ) → IsBlock b → IsBlock (E b)
  pub decrypts : (b : List ℕ) → IsBlock b → IsBlock (D b)
  pub undone : (b : List ℕ) → IsBlock b → D (E b) ≡ b
  pub redone : (b : List ℕ) → IsBlock b → E (D b) ≡ b
