-- What a call that decodes a hex text answers.
use Rattle.std.specs.Prelude.{⊤, ◌+◌, ◌≡◌, ◌≢◌, ◌↔◌, ℕ, List, Result, Ok, Err, IfOk, IsOk}
use Rattle.std.specs.declared.vec.Vec.{Vec}
use Rattle.key_files.specs.declared.fault.FileFault.{FileFault}
use Rattle.key_files.specs.declared.fault.FileFault.TheVariants.{Read, TooLong, BadDigit, BadCharacter, BehindPadding, Memory}
use Rattle.key_files.specs.FileMeaning.{hex_meaning}

-- the answer is what the text denotes, or Memory in the place of bytes
pub record DecodesHex {Z : Type 0} (text : List ℕ) (answer : Result (Vec ℕ Z) FileFault) : Type 0 where
  pub bytes : IfOk answer (λ v. hex_meaning text ≡ Ok v.items)
  pub refused : (fault : FileFault) → fault ≢ Memory → (answer ≡ Err fault) ↔ (hex_meaning text ≡ Err fault)
  pub memory : answer ≡ Err Memory → IsOk (hex_meaning text)

-- The result of a call that decodes into a vector, and what it leaves in the vector, if the text has this meaning.
abbrev pub Decodes : Result (List ℕ) FileFault → List ℕ → Result Unit FileFault → Type 0
Decodes meaning bytes (Ok done) = meaning ≡ Ok bytes
Decodes meaning bytes (Err Read) = ⊥
Decodes meaning bytes (Err TooLong) = ⊥
Decodes meaning bytes (Err Memory) = IsOk meaning
Decodes meaning bytes (Err fault) = meaning ≡ Err fault

-- The same where Memory comes before it is known whether the text encodes bytes, and is not said of it.
abbrev pub DecodesText : Result (List ℕ) FileFault → List ℕ → Result Unit FileFault → Type 0
DecodesText meaning bytes (Err Memory) = ⊤
DecodesText meaning bytes answer = Decodes meaning bytes answer

-- the place that a fault names in the text, or 0
abbrev pub place_of : FileFault → ℕ
place_of (BadDigit at) = at
place_of (BadCharacter at) = at
place_of (BehindPadding at) = at
place_of fault = 0

-- the fault with `n` added to its place
abbrev pub fault_behind : ℕ → FileFault → FileFault
fault_behind n (BadDigit at) = BadDigit (n + at)
fault_behind n (BadCharacter at) = BadCharacter (n + at)
fault_behind n (BehindPadding at) = BehindPadding (n + at)
fault_behind n fault = fault
