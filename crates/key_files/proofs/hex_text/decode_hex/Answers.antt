-- The bytes are those that the digits of the text spell.
use Rattle.key_files.proofs.Common.{◌≡◌, ◌≢◌, ◌%◌, length, None, Ok, ap, rules, sym, ◌∙◌, digits_of, first_bad, paired}
use Rattle.key_files.specs.declared.hex_text.Blanks.TheVariants.{Allowed}
use Rattle.key_files.proofs.Denoting.{DecodesHex-ok, hex_meaning-even}
use Rattle.key_files.proofs.Strict.{paired-meant}
use Rattle.key_files.proofs.hex_text.decode_hex.Goals as goal

pub returns-in-Ok : goal.returns-in-Ok
returns-in-Ok g c =
    let text = c.args.text.now in
    let none : first_bad Allowed text ≡ None = search rules in
    let even : length (digits_of text) % 2 ≢ 1 = search rules in
    let spelled = paired-meant _ _ (search rules) ∙ ap paired (c.deref.ensures.value ∙ c.in_ok-digits.ensures) in
    DecodesHex-ok text c.decode_digits_into.new.bytes (hex_meaning-even text none even ∙ ap Ok (sym spelled))
