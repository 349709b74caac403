-- The cipher's body computes the cipher.
-- The loop has made the rounds below k; a round more is the definition's next, and the last round closes it.
use Rattle.std.proofs.Common.{◌≡◌, ◌-◌, ◌+◌, ap₂, sym, arith, ◌∙◌}
use Rattle.fips197.specs.Rounds.{add_round_key}
use Rattle.fips197.specs.Cipher.{rounds, round, last_round}
use Rattle.fips197.specs.StepsLaw.{rounds-more, cipher_by-rounds}
use Rattle.aes_block.proofs.cipher.AesBlockPair.enc.Goals as goal

pub loop-k-init : goal.loop-k-init
unfolding rounds
loop-k-init c = c.add_round_key-state.ensures ∙ ap₂ add_round_key c.round_key.ensures c.columns_of.ensures

pub loop-k-preserved : goal.loop-k-preserved
loop-k-preserved c =
    c.round-next.ensures
    ∙ ap₂ round c.round_key-in-loop-k.ensures c.loop-k.invariant
    ∙ sym (rounds-more c.args.self.now c.loop-k.k (c.loop-k.k + 1 - 1) _ (omega arith) (omega arith))

pub returns : goal.returns
returns c =
    let all : c.loop-k.k ≡ c.rounds-last.result = omega arith in
    c.block_of.ensures
    ∙ c.last_round.ensures
    ∙ ap₂ last_round c.round_key-2.ensures c.loop-k.invariant
    ∙ rw all (sym (cipher_by-rounds c.args.self.now c.rounds-last.result c.args.b c.rounds-last.ensures.value))
