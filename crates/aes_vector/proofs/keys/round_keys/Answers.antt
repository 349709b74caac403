-- Each step stores one key, and leaves the others as they are.
use Rattle.std.proofs.Common.{◌≡◌, ◌≢◌, ℕ, inl, inr, List, [], sym, set, subst, arith, length-set}
use Rattle.std.proofs.lemmas.Bool.{cases_lt}
use Rattle.std.proofs.lemmas.List.{get_or-set_same, get_or-set_other}
use Rattle.fips197.specs.KeyExpansion.{round_key}
use Rattle.aes_vector.specs.declared.keys.RoundKey.{RoundKey}
use Rattle.aes_vector.specs.VectorSchedule.{AreRoundKeys, IsFirstKey, IsMiddleKey, IsLastKey}
use Rattle.aes_vector.proofs.KeptWords.{kept}
use Rattle.aes_vector.proofs.keys.round_keys.Goals as goal

none : RoundKey
none = record { enc = []; dec = [] }

pub loop-k-init : goal.loop-k-init
unfolding none
loop-k-init c = record {
  long = simp length-set c.told-keys;
  first = subst (λ (key : RoundKey). IsFirstKey key (round_key c.args.words.now 0)) (sym (get_or-set_same c.args.keys.now 0 _ none (omega arith)))
      (subst (λ (b : List ℕ). IsFirstKey c.first_key.result b) c.key_block.ensures c.first_key.ensures);
  middle = λ j p h. absurd (omega arith);
}

pub loop-k-preserved : goal.loop-k-preserved
unfolding none
loop-k-preserved c =
    let keys = c.loop-k.keys in
    let k = c.loop-k.k in
    let words = c.args.words.now in record {
      long = simp length-set c.loop-k.invariant.long;
      first =
          let other : 0 ≢ k = omega arith in
          subst (λ (key : RoundKey). IsFirstKey key (round_key words 0)) (sym (get_or-set_other keys k 0 _ none other)) c.loop-k.invariant.first;
      middle = λ j p h.
          elim (cases_lt j k) [
            | inl before ↦
                let other : j ≢ k = omega arith in
                subst (λ (key : RoundKey). IsMiddleKey key (round_key words j)) (sym (get_or-set_other keys k j _ none other))
                (c.loop-k.invariant.middle j p before)
            | inr after ↦
                let same : j ≡ k = omega arith in
                rw same
                (subst (λ (key : RoundKey). IsMiddleKey key (round_key words k)) (sym (get_or-set_same keys k _ none (omega arith)))
                (subst (λ (b : List ℕ). IsMiddleKey c.middle_key.result b) c.key_block-in-loop-k.ensures c.middle_key.ensures))
          ];
    }

-- the round keys, the last one stored
keys : (c : goal.After-last_key) → AreRoundKeys c.args.words.now c.args.rounds (set c.loop-k.keys c.args.rounds c.last_key.result)
unfolding none
keys c =
    let words = c.args.words.now in
    let rounds = c.args.rounds in record {
      first =
          let other : 0 ≢ rounds = omega arith in
          subst (λ (key : RoundKey). IsFirstKey key (round_key words 0)) (sym (get_or-set_other c.loop-k.keys rounds 0 _ none other)) c.loop-k.invariant.first;
      middle = λ j p h.
          let other : j ≢ rounds = omega (arith, h) in
          subst (λ (key : RoundKey). IsMiddleKey key (round_key words j)) (sym (get_or-set_other c.loop-k.keys rounds j _ none other))
          (c.loop-k.invariant.middle j p (omega arith));
      last =
          subst (λ (key : RoundKey). IsLastKey key (round_key words rounds)) (sym (get_or-set_same c.loop-k.keys rounds _ none (omega arith)))
          (subst (λ (b : List ℕ). IsLastKey c.last_key.result b) c.key_block-2.ensures c.last_key.ensures);
    }

pub returns-clause-schedule : goal.returns-clause-schedule
returns-clause-schedule c = (kept c.args.words.now c.args.rounds _ (keys c) (omega arith) c.fits-words c.requires).0

pub returns-clause-words : goal.returns-clause-words
returns-clause-words c = (kept c.args.words.now c.args.rounds _ (keys c) (omega arith) c.fits-words c.requires).1
