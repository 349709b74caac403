-- The loop computes the key expansion.
-- The words below i agree with the definition, and each step makes the next from them by the standard's equation.
use Rattle.std.proofs.Common.{◌≡◌, ◌≢◌, ◌+◌, ◌-◌, ◌*◌, ◌<◌, length, take, sym, ap, ap₂, ◌∙◌, arith, below_more, bit_xor, length-append, length-drop}
use Rattle.std.proofs.Common.{length-take, length-set}
use Rattle.std.proofs.lemmas.List.{ext_get_or, get_or_append_left, get_or-set_same, get_or-set_other, get_or-take, length-take-le}
use Rattle.fips197.specs.KeyExpansion.{key_words, rounds_of, temp, key_expansion}
use Rattle.fips197.specs.KeyExpansionLaw.{key_expansion_is, legal_words}
use Rattle.fips197.specs.ExpandingLaw.{read_word}
use Rattle.fips197.proofs.key_expansion.expand.Goals as goal

pub loop-i-init : goal.loop-i-init
loop-i-init g c =
    let is = key_expansion_is c.args.kek.now c.requires.legal in
    let some = legal_words c.args.kek.now c.requires.legal in
    let kept = simp length-take at c.read_u32_into.auto.dst in record {
      long = simp (length-append, length-drop) (omega (arith, kept));
      words = λ j h.
          let within : j < length c.read_u32_into.new.dst = omega (arith, kept) in
          get_or_append_left c.read_u32_into.new.dst _ 0 j within
          ∙ c.read_u32_into.ensures j within ∙ read_word c.args.kek.now j ∙ sym (is.key j (omega arith));
    }

pub loop-i-preserved : goal.loop-i-preserved
loop-i-preserved g c =
    let K = c.args.kek.now in
    let i = c.loop-i.i in
    let n = c.args.key_words in
    let same : key_words K ≡ n = omega (arith, c.requires.words) in
    let s = c.loop-i.words in
    let is = key_expansion_is K c.requires.legal in
    let some = legal_words K c.requires.legal in
    let words = c.loop-i.invariant.words in record {
      long = simp length-set c.loop-i.invariant.long;
      words = below_more _ _
          (λ j h. let other : j ≢ i = omega arith in get_or-set_other s i j _ 0 other ∙ words j h)
          (get_or-set_same s i _ 0 (omega arith)
          ∙ ap₂ bit_xor (words (i - n) (omega arith)) (c.temp.ensures ∙ ap (temp n i) (words (i - 1) (omega arith)))
          ∙ sym (rw same at (is.next i (omega arith) (omega arith))));
    }

pub returns : goal.returns
returns g c =
    let K = c.args.kek.now in
    let n = 4 * (rounds_of K + 1) in
    let some = legal_words K c.requires.legal in
    let count = (key_expansion_is K c.requires.legal).count in
    let long : length (take n c.loop-i.words) ≡ n = length-take-le n c.loop-i.words (omega arith) in
    ext_get_or 0 (take n c.loop-i.words) (key_expansion K) (long ∙ sym count)
    (λ i h. let below : i < n = omega arith in get_or-take n c.loop-i.words i 0 below ∙ c.loop-i.invariant.words i (omega arith))
