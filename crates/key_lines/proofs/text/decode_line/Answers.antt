-- What the text of the line denotes, with the place of what is wrong in it counted in the line.
use Rattle.key_lines.proofs.Common.{◌≡◌, Err, sym, ap, ◌∙◌, subst, prefix_len, DecodesText, fault_behind, blank_ended_meaning, is_blank, text_meaning}
use Rattle.key_lines.proofs.Denoting.{DecodesText-line, blank_ended_meaning-is}
use Rattle.key_lines.proofs.text.decode_line.Goals as goal

pub returns-in-Ok : goal.returns-in-Ok
returns-in-Ok c = blank_ended_meaning-is c.args.notation c.args.line.now _ (rw c.text_of.ensures at c.in-Ok.ensures.meaning)

pub returns-in-Err : goal.returns-in-Err
returns-in-Err c =
    let fault = c.in-Err.fault in
    let behind : c.fault_behind.result ≡ fault_behind (prefix_len is_blank c.args.line.now) fault =
    c.fault_behind.ensures ∙ ap (λ n. fault_behind n fault) c.blanks_before.ensures.count in
    subst (λ f. DecodesText (blank_ended_meaning c.args.notation c.args.line.now) c.decode_text.new.bytes.items (Err f)) (sym behind)
    (DecodesText-line c.args.notation c.args.line.now c.decode_text.new.bytes.items fault
    (subst (λ t. DecodesText (text_meaning c.args.notation t) c.decode_text.new.bytes.items (Err fault)) c.text_of.ensures c.in-Err.ensures.meaning))
