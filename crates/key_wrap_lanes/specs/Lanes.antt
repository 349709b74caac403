-- Many wrapped keys of one length in one buffer, each behind the one before, and their blocks in another.
use Rattle.std.specs.Prelude.{◌≡◌, ◌⊎◌, ℕ, ◌*◌, ◌/◌, ◌%◌, List, [], ◌∷◌, length, take, drop, All, Ok, Err}
use Rattle.key_wrap_core.specs.declared.agreed_form.AgreedForm.TheVariants.{Plain}
use Rattle.key_wrap_core.specs.declared.faults.InPlaceFault.TheVariants.{Integrity}
use Rattle.key_wrap_core.specs.Lengths.{IsPlainTextLength}
use Rattle.key_wrap_core.specs.StepCalls.{EndsUnwrapping}

-- the part at a place, counted from 0, of parts of `n` bytes
abbrev pub part_at : (n i : ℕ) → List ℕ → List ℕ
part_at n i bs = take n (drop (n * i) bs)

-- the registers of a text: all but its first 8 bytes
abbrev pub registers_at : (n i : ℕ) → List ℕ → List ℕ
registers_at n i texts = drop 8 (part_at n i texts)

abbrev pub block_at : ℕ → List ℕ → List ℕ
block_at i blocks = part_at 16 i blocks

-- the texts have a legal length of a plain wrapping, and there is a block of 16 bytes for each
abbrev pub AreLanes : (n : ℕ) (texts blocks : List ℕ) → Type 0
AreLanes n texts blocks = IsPlainTextLength n × (length blocks % 16 ≡ 0) × (length texts ≡ n * (length blocks / 16))

-- An unwrapping with no step left ends in a status, with these registers: 0 and the key whose wrapping the text is, or 5 and
-- zeros if it is not a valid wrapped key.
abbrev pub IsEnded : (iv : ℕ) (registers block registers' status : List ℕ) → Type 0
IsEnded iv registers block registers' status =
    ((status ≡ 0 ∷ []) × EndsUnwrapping (Plain iv) 0 registers block (λ (done : Unit {0}). registers') (Ok tt))
    ⊎ ((status ≡ 5 ∷ []) × All (λ byte. byte ≡ 0) registers' × EndsUnwrapping (Plain iv) 0 registers block (λ (done : Unit {0}). registers') (Err Integrity))
