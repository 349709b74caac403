-- The legal lengths and the answers of the calls in the caller's buffers, which allocate no memory.
use Rattle.std.specs.Prelude.{◌≡◌, ℕ, ◌+◌, ◌*◌, List, take, drop, Result, Ok, Err}
use Rattle.key_wrap_core.specs.declared.faults.InPlaceFault.{InPlaceFault}
use Rattle.key_wrap_core.specs.declared.faults.InPlaceFault.TheVariants.{BadLength, Integrity}
use Rattle.key_wrap_core.specs.Lengths.{IsPlainKeyLength, IsPaddedKeyLength, IsPaddedTextLength}
use Rattle.key_wrap_core.specs.Padded.{word_count}
use Rattle.key_wrap_core.specs.NoKey.{NoKey}

-- the length of a buffer in which a key of m bytes is wrapped in the padded form: one word and the padded key
abbrev pub IsPaddedRoom : (m len : ℕ) → Type 0
IsPaddedRoom m len = IsPaddedKeyLength m × (len ≡ 8 + 8 * word_count m)

-- the lengths of a buffer for a plain key and of its wrapped key, which has one word more
abbrev pub ArePlainLengths : (key text : ℕ) → Type 0
ArePlainLengths key text = IsPlainKeyLength key × (text ≡ key + 8)

-- the lengths of a buffer for a padded key and of its wrapped key, which has one word more
abbrev pub ArePaddedLengths : (room text : ℕ) → Type 0
ArePaddedLengths room text = IsPaddedTextLength text × (text ≡ room + 8)

-- the key of m bytes after the first word of a buffer
abbrev pub key_in : (m : ℕ) (buffer : List ℕ) → List ℕ
key_in m buffer = take m (drop 8 buffer)

-- The result of an unwrap that allocates no memory, in the form with this relation of keys and wrapped keys. BadLength
-- if the lengths are not legal. Otherwise the key, or Integrity if there is none.
abbrev pub KeyAnswer : {A : Type 0} → (Legal : Type 0) → (Relates : List ℕ → List ℕ → Type 0) → (text : List ℕ) → (key : A → List ℕ)
    → Result A InPlaceFault → Type 0
KeyAnswer Legal Relates text key (Ok m) = Legal × Relates (key m) text
KeyAnswer Legal Relates text key (Err BadLength) = ¬ Legal
KeyAnswer Legal Relates text key (Err Integrity) = Legal × NoKey Relates text
