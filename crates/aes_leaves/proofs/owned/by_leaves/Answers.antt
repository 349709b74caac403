-- The schedule is of the key, and fills the bytes that count.
use Rattle.std.proofs.Common.{◌≡◌, ◌∙◌, ap, length, ℕ, ◌+◌, ◌*◌, ◌≤◌, inl, inr, arith}
use Rattle.std.proofs.lemmas.List.{take_at, length-take-le}
use Rattle.fips197.specs.KeyExpansion.{IsKekLength}
use Rattle.fips197.specs.KeyedLaw.{made}
use Rattle.fips197.specs.ScheduleBytes.{words_in}
use Rattle.aes_leaves.proofs.owned.by_leaves.Goals as goal

-- the length of a schedule is at most that of the memory
fits : (n len : ℕ) → IsKekLength n → len ≡ 4 * n + 112 → len ≤ 240
fits n len (inl e) h = omega arith
fits n len (inr (inl e)) h = omega arith
fits n len (inr (inr e)) h = omega arith

pub returns : goal.returns
returns c =
    let (legal, is) = c.in-Some.ensures.some in
    let within : c.in-Some.len ≤ 240 = fits (length c.args.kek.now) c.in-Some.len legal is in
    let whole : length c.expand.new.schedule ≡ c.in-Some.len = c.expand.auto.schedule ∙ length-take-le c.in-Some.len _ within in
    made c.args.kek.now _ legal (ap words_in (take_at c.expand.new.schedule _ c.in-Some.len whole) ∙ c.expand.ensures.words)
