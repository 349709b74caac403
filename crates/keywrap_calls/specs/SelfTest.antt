-- What a self test finds: the published wrappings are right, and a damaged wrapped key is refused.
use Rattle.std.specs.Prelude.{⊤, ℕ, List}
use Rattle.std.specs.List.{AllByRecursion}
use Rattle.keywrap_calls.specs.Keks.{IsKek, aes_of}
use Rattle.key_wrap_core.specs.NoKey.{NoKey}
use Rattle.key_wrap_core.specs.Padded.{Padded}
use Rattle.key_wrap_core.specs.Plain.{Plain, default_iv}
use Rattle.test_vectors.specs.Published.{published_vectors, damaged, damaged_kek}
use Rattle.test_vectors.specs.Vectors.{TestVector}
use Rattle.test_vectors.specs.declared.table.Algorithm.{Algorithm}
use Rattle.test_vectors.specs.declared.table.Algorithm.TheVariants.{KeyWrap, KeyWrapWithPadding, Encryption}

-- the wrapped key is the wrapping of the key under AES of the KEK. A library encrypts no single blocks.
abbrev pub IsWrappedUnder : Algorithm → List ℕ → List ℕ → List ℕ → Type 0
IsWrappedUnder KeyWrap kek key text = IsKek kek × Plain (aes_of kek) default_iv key text
IsWrappedUnder KeyWrapWithPadding kek key text = IsKek kek × Padded (aes_of kek) key text
IsWrappedUnder Encryption kek key text = ⊤

abbrev pub IsRightWrapping : TestVector → Type 0
IsRightWrapping v = IsWrappedUnder v.algorithm v.key v.input v.output

pub record IsAllRight : Type 0 where
  pub wrappings : AllByRecursion IsRightWrapping published_vectors
  pub refused : NoKey (Plain (aes_of damaged_kek) default_iv) damaged
