-- What stays of the copied text is all but the blanks.
use Rattle.key_files.proofs.Common.{◌∙◌, ap, rules, filter_same, kept}
use Rattle.key_files.proofs.base64_text.kept.Goals as goal

pub returns : goal.returns
returns g c =
    let same = c.in_ok-kept.ensures.items_if_clones_equal (λ x y e. e) in
    filter_same _ _ _ (λ x b f' k. search rules) _ _ c.retain.ensures.filtered ∙ ap (λ t. kept t) same
