-- The table's entry is the inverse S-box, and so the S-box's converse.
-- The value is the table's lemma; the converse is the definitions' law at that value.
use Rattle.std.proofs.Common.{sym, ◌∙◌}
use Rattle.fips197.specs.SBoxLaw.{inv_s_box_converse}
use Rattle.aes_block.proofs.Tables.{inv_s_box_entry}
use Rattle.aes_block.proofs.s_box.inv_sbox.Goals as goal

pub returns-clause-value : goal.returns-clause-value
returns-clause-value c = inv_s_box_entry c.args.a c.ranges.a.fits

pub returns-clause-converse : goal.returns-clause-converse
returns-clause-converse c = λ x h.
    let entry = inv_s_box_entry c.args.a c.ranges.a.fits in
    let converse = inv_s_box_converse x c.args.a h c.ranges.a.fits in
    (λ is. converse.0 (is ∙ entry), λ at. converse.1 at ∙ sym entry)
