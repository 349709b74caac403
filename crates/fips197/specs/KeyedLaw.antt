-- What the call that makes an AES owes at each of its returns.
use Rattle.std.proofs.Common.{◌≡◌, inl, inr, ℕ, ◌+◌, ◌*◌, List, length, Ok, Err, refl, ap, ◌∙◌, arith}
use Rattle.fips197.specs.KeyExpansion.{IsKekLength, key_expansion, rounds_of}
use Rattle.fips197.specs.KeyExpansionLaw.{key_expansion_is, key_expansion_only}
use Rattle.fips197.specs.Keyed.{HasRounds, IsRoundCount, MakesAes}
use Rattle.fips197.specs.declared.bad_kek_length.BadKekLength.{BadKekLength}

pub made : (kek w : List ℕ) → IsKekLength (length kek) → w ≡ key_expansion kek → MakesAes kek (Ok w)
made kek w legal is = record {
  accepted = (λ ok. legal, λ h. refl);
  refused = (λ no. cc, λ no. absurd (no legal));
  words = is;
  schedule = λ h w. key_expansion_only kek w h;
}

pub refused : (kek : List ℕ) (why : BadKekLength) → ¬ IsKekLength (length kek) → MakesAes kek (Err why)
refused kek why illegal = record {
  accepted = (λ no. cc, λ h. absurd (illegal h));
  refused = (λ no. illegal, λ no. refl);
  words = tt;
  schedule = λ h w. key_expansion_only kek w h;
}

-- a key has 10, 12 or 14 rounds
pub round_count : (kek : List ℕ) (rounds : ℕ) → IsKekLength (length kek) → rounds ≡ rounds_of kek → IsRoundCount rounds
round_count kek rounds (inl n) e = inl (omega arith)
round_count kek rounds (inr (inl n)) e = inr (inl (omega arith))
round_count kek rounds (inr (inr n)) e = inr (inr (omega arith))

-- its key schedule is as long
pub has_rounds : (kek w : List ℕ) (rounds : ℕ) → IsKekLength (length kek) → rounds ≡ rounds_of kek → w ≡ key_expansion kek → HasRounds w rounds
has_rounds kek w rounds legal e is =
    let long : length w ≡ 4 * (rounds + 1) = omega (arith, ap length is ∙ (key_expansion_is kek legal).count) in
    record { legal = round_count kek rounds legal e; words = long; value = omega arith }
