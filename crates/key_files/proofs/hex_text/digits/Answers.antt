-- What stays of the copied text is its digits.
use Rattle.key_files.proofs.Common.{◌∙◌, ap, rules, filter_same, digits_of}
use Rattle.key_files.proofs.hex_text.digits.Goals as goal

pub returns : goal.returns
returns g c =
    let same = c.in_ok-digits.ensures.items_if_clones_equal (λ x y e. e) in
    filter_same _ _ _ (λ x b f' k. search rules) _ _ c.retain.ensures.filtered ∙ ap (λ t. digits_of t) same
