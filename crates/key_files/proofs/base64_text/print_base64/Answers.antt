-- The law of the definitions, at each return.
use Rattle.key_files.proofs.Common.{◌≡◌, ℕ, List, [], ◌∷◌, ◌++◌, length, arith, ap, ◌∙◌, take_at}
use Rattle.key_files.proofs.Base64Back.{prints_base64}
use Rattle.key_files.proofs.base64_text.print_base64.Goals as goal

pub returns-in_err-resize-clause-prints : goal.returns-in_err-resize-clause-prints
returns-in_err-resize-clause-prints c = prints_base64 c.args.alphabet c.args.bytes.now (λ k. (c.type_inv.bytes k).fits)

pub returns-then-not-fills-clause-prints : goal.returns-then-not-fills-clause-prints
returns-then-not-fills-clause-prints c = prints_base64 c.args.alphabet c.args.bytes.now (λ k. (c.type_inv.bytes k).fits)

pub returns-in_err-push-clause-prints : goal.returns-in_err-push-clause-prints
returns-in_err-push-clause-prints c = prints_base64 c.args.alphabet c.args.bytes.now (λ k. (c.type_inv.bytes k).fits)

pub returns-clause-prints : goal.returns-clause-prints
returns-clause-prints c = prints_base64 c.args.alphabet c.args.bytes.now (λ k. (c.type_inv.bytes k).fits)

-- the buffer is as long as the encoding that fills it
pub returns-clause-whole : goal.returns-clause-whole
returns-clause-whole c =
    let full : length c.fills.new.output ≡ c.resize.new.self.len = grind (arith, c.fills.auto.output, c.deref_mut.ensures) in
    c.in_ok-push.ensures.items ∙ ap (λ (l : List ℕ). l ++ 10 ∷ []) (take_at c.fills.new.output _ _ full ∙ c.fills.ensures.whole c.if-not-fills.false)
