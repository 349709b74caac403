-- What an initial value and the registers after it hold, before they are wrapped and after they were unwrapped.
use Rattle.std.specs.Prelude.{◌≡◌, ℕ, List, ◌++◌, length}
use Rattle.key_wrap_core.specs.declared.agreed_form.AgreedForm.{AgreedForm}
use Rattle.key_wrap_core.specs.declared.agreed_form.AgreedForm.TheVariants.{Plain, Padded}
use Rattle.block_pair.specs.Words.{IsWord}
use Rattle.key_wrap_core.specs.Words.{word_bytes}
use Rattle.key_wrap_core.specs.Lengths.{IsPlainKeyLength, IsPaddedKeyLength}
use Rattle.key_wrap_core.specs.PaddedRegisters.{IsAivAndKey}

-- the buffer is the initial value of this form and the key, in the padded form with its padding
abbrev pub IsIvAndKey : AgreedForm → (key buffer : List ℕ) → Type 0
IsIvAndKey (Plain iv) key buffer = IsPlainKeyLength (length key) × (buffer ≡ word_bytes iv ++ key) × IsWord iv
IsIvAndKey Padded key buffer = IsPaddedKeyLength (length key) × IsAivAndKey buffer key
