-- The inverse cipher's body computes the inverse cipher.
-- InvMixColumns distributes over AddRoundKey, so that the key may come after it, with InvMixColumns of its own.
use Rattle.std.proofs.Common.{ℕ, List, ◌-◌, ap, ap₂, sym, arith, ◌∙◌, map}
use Rattle.fips197.specs.KeyExpansion.{round_key}
use Rattle.fips197.specs.Rounds.{add_round_key, inv_mix_columns, inv_mix_matrix, inv_shift_rows, inv_sub_bytes}
use Rattle.fips197.specs.Cipher.{inv_rounds}
use Rattle.aes_vector.specs.Tower.{affine_element}
use Rattle.aes_vector.proofs.Adding.{multiplied_added}
use Rattle.fips197.specs.StepsLaw.{inv_rounds-more, inv_rounds-none, inv_cipher_by-rounds}
use Rattle.aes_vector.proofs.cipher.LentAesBlockPair.dec.Goals as goal

-- the steps with which a round of the definition ends
ends : List ℕ → List ℕ
ends s = inv_sub_bytes (inv_shift_rows s)

pub loop-k-init : goal.loop-k-init
unfolding ends
loop-k-init c =
    ap (λ s. inv_rounds c.args.self.now (c.rounds-last.result - 1) (ends s))
    (c.inv_first_state-state.ensures
    ∙ ap₂ add_round_key (c.first_dec_key.ensures ∙ ap (round_key c.args.self.now) (sym c.rounds-last.ensures.value)) c.vector_of.ensures)

pub loop-k-preserved : goal.loop-k-preserved
unfolding ends
loop-k-preserved c =
    let K = c.args.self.now in
    let k = c.loop-k.k - 1 in
    let before = ends (map affine_element c.loop-k.state) in
    ap (λ s. inv_rounds K (k - 1) (ends s))
    (c.inv_round-next.ensures
    ∙ ap (λ key. add_round_key key (inv_mix_columns before)) c.dec_key.ensures
    ∙ sym (multiplied_added inv_mix_matrix (round_key K k) before))
    ∙ sym (inv_rounds-more K k before (omega arith))
    ∙ c.loop-k.invariant

pub returns : goal.returns
unfolding ends
returns c =
    let before = ends (map affine_element c.loop-k.state) in
    c.bytes_of.ensures
    ∙ c.inv_last_round.ensures
    ∙ ap₂ add_round_key c.last_dec_key.ensures (sym (inv_rounds-none c.args.self.now (c.loop-k.k - 1) before (omega arith)) ∙ c.loop-k.invariant)
    ∙ sym (inv_cipher_by-rounds c.args.self.now c.rounds-last.result c.args.b c.rounds-last.ensures.value)
