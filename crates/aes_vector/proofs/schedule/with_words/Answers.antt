-- The round keys keep the words of the key expansion.
use Rattle.std.proofs.Common.{◌≡◌, ℕ, ◌+◌, ◌*◌, ◌∙◌, take, ap, arith}
use Rattle.fips197.specs.KeyExpansion.{rounds_of}
use Rattle.fips197.specs.KeyedLaw.{round_count}
use Rattle.fips197.specs.KeyExpansionLaw.{legal_words}
use Rattle.aes_vector.proofs.schedule.with_words.Goals as goal

pub round_keys-requires : goal.round_keys-requires
round_keys-requires c =
    let some = legal_words c.args.kek.now c.requires.legal in
    round_count c.args.kek.now _ c.requires.legal (omega (arith, some))

pub returns-clause-words : goal.returns-clause-words
returns-clause-words c =
    let some = legal_words c.args.kek.now c.requires.legal in
    let count : c.args.key_words + 6 ≡ rounds_of c.args.kek.now = omega (arith, c.requires.words) in
    c.round_keys.ensures.words
    ∙ ap (λ (r : ℕ). take (4 * (r + 1)) c.expand_key.new.words) count ∙ c.expand_key.ensures.schedule c.requires.legal c.requires.words
