-- A test that the checker computes over the 256 bytes says a rule of each byte.
use Rattle.std.proofs.Common.{◌≡◌, ◌<◌, ℕ, Bool, true, false, get_or, refl, ◌∙◌, ap, zero-add}
use Rattle.std.specs.List.{list_all, range_with_len}
use Rattle.std.proofs.lemmas.List.Folds.{list_all_at}
use Rattle.std.proofs.lemmas.List.FromFn.{get_or-range_with_len, length-range_with_len}

-- the test passes at each number below n
abbrev pub passes_below : ℕ → (ℕ → Bool) → Bool
passes_below n test = list_all test (range_with_len 0 n)

-- so it passes at this one
pub passes_at : (n : ℕ) (test : ℕ → Bool) (x : ℕ) → x < n → passes_below n test ≡ true → test x ≡ true
passes_at n test x h all =
    let place : get_or (range_with_len 0 n) x 0 ≡ x = get_or-range_with_len 0 n x 0 h ∙ zero-add x in
    decided (test x) (λ no. list_all_at test (range_with_len 0 n) x 0 (rw (length-range_with_len 0 n) h) (ap test place ∙ no)) all
  where
    decided : (b : Bool) → (b ≡ false → passes_below n test ≡ false) → passes_below n test ≡ true → b ≡ true
    decided true against passed = refl
    decided false against passed = cc (against refl)
