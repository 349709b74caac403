-- The schedule begins with the key expansion, for the rounds of the key's length.
use Rattle.std.proofs.Common.{◌≡◌, inl, inr, ℕ, ◌+◌, ◌*◌, ◌∙◌, length, take, ap, arith, rules}
use Rattle.fips197.specs.KeyExpansion.{IsKekLength, rounds_of, key_expansion}
use Rattle.fips197.specs.KeyedLaw.{has_rounds, made, refused}
use Rattle.aes_block.proofs.schedule.Aes.new.Goals as goal
use Rattle.aes_block.proofs.schedule.Aes.new.Goals.{in-16, in-24, in-32}

legal : (c : goal.After-expand) → IsKekLength (length c.args.kek.now)
legal c = elim c.match-kek.branch [ in-16 w ↦ inl (omega arith) | in-24 w ↦ inr (inl (omega arith)) | in-32 w ↦ inr (inr (omega arith)) ]

rounds : (c : goal.After-expand) → c.match-kek.rounds ≡ rounds_of c.args.kek.now
rounds c = elim c.match-kek.branch [ in-16 w ↦ omega arith | in-24 w ↦ omega arith | in-32 w ↦ omega arith ]

-- the words of the schedule
words : (c : goal.After-expand) → take (4 * (c.match-kek.rounds + 1)) c.expand.result ≡ key_expansion c.args.kek.now
words c = ap (λ (r : ℕ). take (4 * (r + 1)) c.expand.result) (rounds c) ∙ c.expand.ensures

pub returns : goal.returns
returns c = made c.args.kek.now _ (legal c) (words c)

pub returns-in_default : goal.returns-in_default
returns-in_default c = refused c.args.kek.now _ (search rules)

pub invariant_of-result : goal.invariant_of-result
invariant_of-result c = has_rounds c.args.kek.now _ c.match-kek.rounds (legal c) (rounds c) (words c)
