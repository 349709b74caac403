use Rattle.std.proofs.Common.{◌≡◌, inl, inr, ℕ, ◌+◌, ◌*◌, ◌/◌, length, refl, arith}
use Rattle.fips197.specs.KeyExpansion.{IsKekLength}
use Rattle.aes_leaves.proofs.aes.LeafAesKeyInit.expand.Goals as goal

-- the length of the schedule
of_rounds : (n len : ℕ) → IsKekLength n → len ≡ 4 * n + 112 → len ≡ 16 * (n / 4 + 6 + 1)
of_rounds n len (inl e) h = omega arith
of_rounds n len (inr (inl e)) h = omega arith
of_rounds n len (inr (inr e)) h = omega arith

pub returns : goal.returns
returns c =
    let legal = c.in-Some.ensures.some.0 in
    let long : length c.args.schedule.now ≡ 16 * (length c.args.kek.now / 4 + 6 + 1) = of_rounds (length c.args.kek.now) (length c.args.schedule.now) legal (omega (arith, c.if-schedule-len.false, c.in-Some.ensures.some.1)) in record {
      written = (λ ok. (legal, long), λ h. refl);
      bad_kek = (λ e. cc, λ no. absurd (no legal));
      bytes = c.expand.ensures.bytes;
      words = c.expand.ensures.words;
      kept = λ err. cc;
    }
