-- The steps of a wrapping and of an unwrapping, one by one, for an E outside the program. They define what the
-- registers and the next block are after some of them (RFC 3394, section 2.2; RFC 5649, section 4).
use Rattle.std.specs.Prelude.{◌≡◌, ◌⊎◌, ℕ, ◌+◌, ◌-◌, ◌*◌, ◌%◌, ◌≤◌, ◌<◌, List, ◌∷◌, length, take, drop, bit_xor}
use Rattle.block_pair.specs.Words.{IsWord, IsBlock}
use Rattle.key_wrap_core.specs.BlockCalls.{block_calls}
use Rattle.key_wrap_core.specs.Words.{AreWords, at, word_bytes, spelled, joined}

-- A tape for E and n of which the equations of the steps s + 1 .. e hold; with s = 0 and e = 6n, a `Tape`.
pub record TapeBetween (E : List ℕ → List ℕ) (n s e : ℕ) (x a : List ℕ) : Type 0 where
  pub length_x : length x ≡ 7 * n
  pub length_a : length a ≡ 6 * n + 1
  pub words_x : AreWords x
  pub words_a : AreWords a
  pub step : (u : ℕ) → s + 1 ≤ u → u ≤ e
      → E (joined (at a (u - 1)) (at x (u - 1))) ≡ joined (bit_xor (at a u) u) (at x (n + u - 1))

-- The bytes spell n registers that hold X(t+1) .. X(t+n): the word of place p (counted from 0) is in register p modulo n.
pub record HoldPlaces (n t : ℕ) (x registers : List ℕ) : Type 0 where
  pub R : List ℕ
  pub size : length R ≡ n
  pub words : spelled R ≡ registers
  pub lie : (p : ℕ) → t ≤ p → p < t + n → at R (p % n) ≡ at x p

-- A wrapping of the key under this initial value has t of its 6n steps done: on some tape with A0 = iv and X1 .. Xn the words
-- of the key, the first t steps hold, the registers hold X(t+1) .. X(t+n), and the block to encrypt next is At | X(t+1).
pub record WrapSteps (E : List ℕ → List ℕ) (iv : ℕ) (key : List ℕ) (t : ℕ) (registers block : List ℕ) : Type 0 where
  pub n : ℕ
  pub x : List ℕ
  pub a : List ℕ
  pub tape : TapeBetween E n 0 t x a
  pub initial : at a 0 ≡ iv
  pub key_words : spelled (take n x) ≡ key
  pub hold : HoldPlaces n t x registers
  pub block_words : joined (at a t) (at x t) ≡ block

-- A wrapping of one word p has none of its one step done, and the block to encrypt is iv | p; or it has it done, and the block
-- is E(iv | p), the second half of which is in the register too. There is no counter (RFC 5649, section 4.1).
pub record WrapBlock (E : List ℕ → List ℕ) (iv : ℕ) (key : List ℕ) (t : ℕ) (registers block : List ℕ) : Type 0 where
  pub p : ℕ
  pub word : IsWord p
  pub key_word : word_bytes p ≡ key
  pub begun : t ≡ 0 → (registers ≡ key) × (block ≡ joined iv p)
  pub done : t ≡ 1 → (block ≡ E (joined iv p)) × (registers ≡ drop 8 block)

-- The wrapping of the key under this initial value has t steps done; the key is of whole words.
abbrev pub WrapState : (E : List ℕ → List ℕ) (iv : ℕ) (key : List ℕ) (t : ℕ) (registers block : List ℕ) → Type 0
WrapState E iv key t registers block =
    ((16 ≤ length registers) × WrapSteps E iv key t registers block) ⊎ ((length registers ≡ 8) × WrapBlock E iv key t registers block)

-- A whole wrapping, by the registers and the block after each number of steps: it is begun, and each step keeps the state.
pub record WrapRun (E : List ℕ → List ℕ) (iv : ℕ) (key : List ℕ) (registers block : ℕ → List ℕ) : Type 0 where
  pub begun : WrapState E iv key 0 (registers 0) (block 0)
  pub step : (t : ℕ) → t < block_calls (8 + length key) → WrapState E iv key t (registers t) (block t)
      → WrapState E iv key (t + 1) (registers (t + 1)) (block (t + 1))

-- An unwrapping of the text has t of its 6n steps left to undo: on some tape with C0 = A6n and C1 .. Cn the last words of x,
-- the steps after the first t hold, the registers hold X(t+1) .. X(t+n), and the block to decrypt next is (At xor t) | X(t+n).
pub record UnwrapSteps (E : List ℕ → List ℕ) (text : List ℕ) (t : ℕ) (registers block : List ℕ) : Type 0 where
  pub n : ℕ
  pub x : List ℕ
  pub a : List ℕ
  pub tape : TapeBetween E n t (6 * n) x a
  pub text_words : spelled (at a (6 * n) ∷ drop (6 * n) x) ≡ text
  pub hold : HoldPlaces n t x registers
  pub block_words : joined (bit_xor (at a t) t) (at x (n + t - 1)) ≡ block

-- An unwrapping of one word has its one step left, and the block to decrypt is the text; or it has none left, and E takes the
-- block to the text. The register is the second half of the block (RFC 5649, section 4.2).
pub record UnwrapBlock (E : List ℕ → List ℕ) (text : List ℕ) (t : ℕ) (registers block : List ℕ) : Type 0 where
  pub begun : t ≡ 1 → (block ≡ text) × (registers ≡ drop 8 block)
  pub done : t ≡ 0 → IsBlock block × (E block ≡ text) × (registers ≡ drop 8 block)

-- The unwrapping of the text has t steps left to undo.
abbrev pub UnwrapState : (E : List ℕ → List ℕ) (text : List ℕ) (t : ℕ) (registers block : List ℕ) → Type 0
UnwrapState E text t registers block =
    ((16 ≤ length registers) × UnwrapSteps E text t registers block) ⊎ ((length registers ≡ 8) × UnwrapBlock E text t registers block)

-- A whole unwrapping, by the registers and the block for each number of steps left: it is begun, and each step undone keeps
-- the state.
pub record UnwrapRun (E : List ℕ → List ℕ) (text : List ℕ) (registers block : ℕ → List ℕ) : Type 0 where
  pub begun : let all = block_calls (length text) in UnwrapState E text all (registers all) (block all)
  pub step : (t : ℕ) → t < block_calls (length text) → UnwrapState E text (t + 1) (registers (t + 1)) (block (t + 1))
      → UnwrapState E text t (registers t) (block t)
