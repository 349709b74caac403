-- The inverse cipher's body computes the inverse cipher.
-- The body's rounds begin with InvShiftRows and InvSubBytes, and the definition's end with them: the proof counts the two to the round before.
use Rattle.std.proofs.Common.{ℕ, List, ◌-◌, ap, ap₂, sym, arith, ◌∙◌}
use Rattle.fips197.specs.Rounds.{add_round_key, inv_mix_columns, inv_shift_rows, inv_sub_bytes}
use Rattle.fips197.specs.Cipher.{inv_rounds}
use Rattle.fips197.specs.Words.{block_of}
use Rattle.fips197.specs.StepsLaw.{inv_rounds-more, inv_rounds-none, inv_cipher_by-rounds}
use Rattle.aes_block.proofs.cipher.AesBlockPair.dec.Goals as goal

-- the steps with which a round of the definition ends
ends : List ℕ → List ℕ
ends s = inv_sub_bytes (inv_shift_rows s)

pub loop-k-init : goal.loop-k-init
unfolding ends
loop-k-init c =
    ap (λ s. inv_rounds c.args.self.now (c.rounds-last.result - 1) (ends s))
    (c.add_round_key-state.ensures ∙ ap₂ add_round_key c.round_key.ensures c.columns_of.ensures)

pub loop-k-preserved : goal.loop-k-preserved
unfolding ends
loop-k-preserved c =
    let before = ends (block_of c.loop-k.state) in
    ap (λ s. inv_rounds c.args.self.now (c.loop-k.k - 1 - 1) (ends s))
    (c.inv_round-next.ensures ∙ ap (λ key. inv_mix_columns (add_round_key key before)) c.round_key-in-loop-k.ensures)
    ∙ sym (inv_rounds-more c.args.self.now (c.loop-k.k - 1) before (omega arith))
    ∙ c.loop-k.invariant

pub returns : goal.returns
unfolding ends
returns c =
    let before = ends (block_of c.loop-k.state) in
    c.block_of.ensures
    ∙ c.inv_last_round.ensures
    ∙ ap₂ add_round_key c.round_key-2.ensures (sym (inv_rounds-none c.args.self.now (c.loop-k.k - 1) before (omega arith)) ∙ c.loop-k.invariant)
    ∙ sym (inv_cipher_by-rounds c.args.self.now c.rounds-last.result c.args.b c.rounds-last.ensures.value)
