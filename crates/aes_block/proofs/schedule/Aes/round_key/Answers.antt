-- The four words at 4k are round key k.
use Rattle.std.proofs.Common.{◌≡◌, ℕ, ◌+◌, ◌*◌, ◌∙◌, List, length, take, ap, sym, arith}
use Rattle.std.proofs.lemmas.List.{get_or-take}
use Rattle.fips197.specs.KeyExpansion.{round_key}
use Rattle.fips197.specs.ExpandingLaw.{round_key_same, words_key}
use Rattle.aes_block.proofs.schedule.Aes.round_key.Goals as goal

pub returns : goal.returns
returns c =
    let k = c.args.k in
    let s = c.self.inside.schedule in
    let n : ℕ = 4 * (c.self.inside.rounds + 1) in
    let long : length c.args.self.now ≡ n = ap length (sym c.self.view_is) ∙ c.self.invariant.words in
    words_key s k
    ∙ round_key_same s (take n s) k (λ i h. sym (get_or-take n s (4 * k + i) 0 (omega (arith, c.requires))))
    ∙ ap (λ (w : List ℕ). round_key w k) c.self.view_is
