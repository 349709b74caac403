-- What the calls of the crate gave for a vector, and whether the vector is right.
use Rattle.keywrap_cli.proofs.Common.{◌∙◌, ℕ, List, length, Option, Some, None, ap, inl, inr, sym, cipher, Differs, LibraryGives, IsReproduced, IsMissed, IsRight, Takes, TestVector}
use Rattle.std.specs.Prelude.{◌≢◌}
use Rattle.fips197.specs.KeyExpansion.{IsKekLength}
use Rattle.keywrap_cli.specs.declared.job.Direction.TheVariants.{Wrap, Unwrap}
use Rattle.test_vectors.specs.declared.table.Algorithm.{Algorithm}
use Rattle.test_vectors.specs.declared.table.Algorithm.TheVariants.{KeyWrap, KeyWrapWithPadding, Encryption}

abbrev Right : Algorithm → (key input output : List ℕ) → Type 0
Right algorithm key input output = IsKekLength (length key) × Takes algorithm (cipher key) input output

there : (algorithm : Algorithm) (key input output : List ℕ) → LibraryGives Wrap algorithm key input (Some output) → Right algorithm key input output
there KeyWrap key input output gave = (gave.0, gave.1.wrapping)
there KeyWrapWithPadding key input output gave = (gave.0, gave.1.wrapping)
there Encryption key input output gave = (gave.0, (gave.1.plain, gave.1.value))

not_there : (algorithm : Algorithm) (key input output : List ℕ) (found : Option (List ℕ)) → LibraryGives Wrap algorithm key input found
    → found ≢ Some output → ¬ Right algorithm key input output
not_there KeyWrap key input output (Some other) gave unlike right = unlike (ap Some (sym (gave.1.alone output right.1)))
not_there KeyWrapWithPadding key input output (Some other) gave unlike right = unlike (ap Some (sym (gave.1.alone output right.1)))
not_there Encryption key input output (Some other) gave unlike right = unlike (ap Some (sym gave.1.value ∙ right.1.1))
not_there KeyWrap key input output None gave unlike right = elim (gave right.0) [ inl bad ↦ bad right.1.legal | inr none ↦ none ]
not_there KeyWrapWithPadding key input output None gave unlike right = elim (gave right.0) [ inl bad ↦ bad right.1.legal | inr none ↦ none ]
not_there Encryption key input output None gave unlike right = gave right.0 right.1.0

not_back : (algorithm : Algorithm) (key input output : List ℕ) (found : Option (List ℕ)) → LibraryGives Wrap algorithm key input (Some output)
    → LibraryGives Unwrap algorithm key output found → found ≢ Some input → ¬ Right algorithm key input output
not_back KeyWrap key input output (Some other) made gave unlike right = unlike (ap Some (sym (gave.1.alone input right.1)))
not_back KeyWrapWithPadding key input output (Some other) made gave unlike right = unlike (ap Some (sym (gave.1.alone input right.1)))
not_back Encryption key input output (Some other) made gave unlike right = unlike (ap Some (sym (gave.1.1 input right.1.0 right.1.1)))
not_back KeyWrap key input output None made gave unlike right = elim (gave right.0) [ inl bad ↦ bad made.1.legal | inr none ↦ none input right.1 ]
not_back KeyWrapWithPadding key input output None made gave unlike right =
    elim (gave right.0) [ inl bad ↦ bad made.1.legal | inr none ↦ none input right.1 ]
not_back Encryption key input output None made gave unlike right = gave right.0 made.1.encrypted

pub found_right : (v : TestVector) → IsReproduced LibraryGives v → IsRight v
found_right v found = there v.algorithm v.key v.input v.output found.0

differs_there : (v : TestVector) → Differs LibraryGives Wrap v.algorithm v.key v.input v.output → ¬ IsRight v
differs_there v (found, gave, unlike) right = not_there v.algorithm v.key v.input v.output found gave unlike right

differs_back : (v : TestVector) → LibraryGives Wrap v.algorithm v.key v.input (Some v.output)
    → Differs LibraryGives Unwrap v.algorithm v.key v.output v.input → ¬ IsRight v
differs_back v made (found, gave, unlike) right = not_back v.algorithm v.key v.input v.output found made gave unlike right

pub missed_wrong : (v : TestVector) → IsMissed LibraryGives v → ¬ IsRight v
missed_wrong v (inl other) right = differs_there v other right
missed_wrong v (inr (made, other)) right = differs_back v made other right
