-- What a self test has tried. Its calls are known by relations that mean nothing to it, so that only a call can show one.
use Rattle.std.specs.Prelude.{◌≡◌, ⊤, ℕ, ℤ, List, take}
use Rattle.std.specs.List.{AllByRecursion}
use Rattle.keywrap_calls.specs.Keks.{aes_of}
use Rattle.keywrap_calls.specs.Calls.{WrapsPlain, UnwrapsPlain, WrapsPadded, UnwrapsPadded}
use Rattle.keywrap_calls.specs.Status.{IsDone, IsIntegrity}
use Rattle.test_vectors.specs.Published.{published_vectors, damaged, damaged_kek}
use Rattle.test_vectors.specs.declared.table.Algorithm.{Algorithm}
use Rattle.test_vectors.specs.declared.table.Algorithm.TheVariants.{KeyWrap, KeyWrapWithPadding, Encryption}

-- that a call was made with this KEK and this input, found these bytes in its buffer, and left these and this status
abbrev pub Call : Type 1
Call = List ℕ → List ℕ → List ℕ → List ℕ → ℤ → Type 0

-- the calls of a library; the last leaves the length of a key, too
pub record LibraryCalls : Type 1 where
  pub wrap : Call
  pub unwrap : Call
  pub wrap_padded : Call
  pub unwrap_padded : List ℕ → List ℕ → List ℕ → List ℕ → ℕ → ℤ → Type 0

-- a call gave this output
pub record Gives (call : Call) (kek input output : List ℕ) : Type 0 where
  pub before : List ℕ
  pub status : ℤ
  pub done : IsDone status
  pub made : call kek input before output status

-- a call of `unwrap_padded` gave this key, at the front of its buffer
pub record GivesKey (calls : LibraryCalls) (kek text key : List ℕ) : Type 0 where
  pub before : List ℕ
  pub after : List ℕ
  pub len : ℕ
  pub status : ℤ
  pub done : IsDone status
  pub found : take len after ≡ key
  pub made : calls.unwrap_padded kek text before after len status

-- a call of `unwrap` refused this text
pub record Refuses (calls : LibraryCalls) (kek text : List ℕ) : Type 0 where
  pub before : List ℕ
  pub after : List ℕ
  pub status : ℤ
  pub refused : IsIntegrity status
  pub made : calls.unwrap kek text before after status

-- calls gave the wrapped key for the key, and the key for the wrapped key
abbrev pub GivesBoth : LibraryCalls → Algorithm → List ℕ → List ℕ → List ℕ → Type 0
GivesBoth calls KeyWrap kek key text = Gives calls.wrap kek key text × Gives calls.unwrap kek text key
GivesBoth calls KeyWrapWithPadding kek key text = Gives calls.wrap_padded kek key text × GivesKey calls kek text key
GivesBoth calls Encryption kek key text = ⊤

-- all published vectors were tried in both directions, and a call refused the damaged wrapped key
pub record AllTried (calls : LibraryCalls) : Type 0 where
  pub wrappings : AllByRecursion (λ v. GivesBoth calls v.algorithm v.key v.input v.output) published_vectors
  pub refused : Refuses calls damaged_kek damaged

-- the exports, with the meaning of each call
abbrev pub exports : LibraryCalls
exports = record {
  wrap = λ kek key old new status. WrapsPlain (aes_of kek) kek key old new status;
  unwrap = λ kek text old new status. UnwrapsPlain (aes_of kek) kek text old new status;
  wrap_padded = λ kek key old new status. WrapsPadded (aes_of kek) kek key old new status;
  unwrap_padded = λ kek text old new len status. UnwrapsPadded (aes_of kek) kek text old new len status;
}
