-- What is xored to a word, in the standard's three cases.
-- The code's branches are the definition's, and a rotation by 8 bits is RotWord.
use Rattle.std.proofs.Common.{ap, ◌∙◌, bit_xor, slice_index, ◌/◌, ◌-◌, ℕ}
use Rattle.fips197.specs.KeyExpansion.{sub_word, round_constants}
use Rattle.fips197.specs.ExpandingLaw.{rotated_word, temp_first, temp_middle, temp_short, temp_else}
use Rattle.fips197.proofs.key_expansion.temp.Goals as goal
use Rattle.fips197.proofs.key_expansion.temp.Goals.{else-key_words-eq8-via-then-key_words-eq8+else-i-eq4, else-key_words-eq8-via-else-key_words-eq8}

pub returns-then-i-key_words-eq0 : goal.returns-then-i-key_words-eq0
returns-then-i-key_words-eq0 g c =
    let turned = c.sub_word.ensures ∙ ap sub_word (c.rotate_left.ensures ∙ rotated_word c.args.word c.ranges.word.fits) in
    let constant = slice_index round_constants (c.args.i / c.args.key_words - 1) in
    ap (λ (x : ℕ). bit_xor x constant) turned ∙ temp_first c.args.key_words c.args.i c.args.word c.if-i-key_words-eq0.true

pub returns-then-i-eq4 : goal.returns-then-i-eq4
returns-then-i-eq4 g c =
    c.sub_word-then-i-eq4.ensures
    ∙ temp_middle c.args.key_words c.args.i c.args.word c.if-i-key_words-eq0.false c.if-key_words-eq8.true c.if-i-eq4.true

pub returns-else-key_words-eq8 : goal.returns-else-key_words-eq8
returns-else-key_words-eq8 g c =
    elim c.else-key_words-eq8.branch [
      | else-key_words-eq8-via-then-key_words-eq8+else-i-eq4 w ↦
          temp_else c.args.key_words c.args.i c.args.word c.if-i-key_words-eq0.false w.if-key_words-eq8.true w.if-i-eq4.false
      | else-key_words-eq8-via-else-key_words-eq8 w ↦
          temp_short c.args.key_words c.args.i c.args.word c.if-i-key_words-eq0.false w.if-key_words-eq8.false
    ]
