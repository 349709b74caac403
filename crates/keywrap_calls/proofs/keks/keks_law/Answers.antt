use Rattle.std.proofs.Common.{ap, ◌∙◌, inl, inr}
use Rattle.fips197.specs.Cipher.{cipher_by}
use Rattle.keywrap_calls.specs.Keks.{IsKek}
use Rattle.keywrap_calls.proofs.KekForms.{of_kek, of_kept}
use Rattle.keywrap_calls.proofs.keks.keks_law.Goals as goal

pub returns-clause-kek : goal.returns-clause-kek
unfolding IsKek
returns-clause-kek c = λ kek h. (inl h, of_kek kek h)

pub returns-clause-kept : goal.returns-clause-kept
unfolding IsKek
returns-clause-kept c = λ kek kept h. (inr h.legal, of_kept kept h.legal.1 ∙ ap cipher_by h.words)
