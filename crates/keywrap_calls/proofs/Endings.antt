-- A text's start is copied into a buffer, and a zero written after it.
use Rattle.std.proofs.Common.{◌≡◌, ℕ, List, length, take, drop, ◌∷◌, ◌++◌, ◌+◌, ◌-◌, ◌<◌, min, suc, slice_set, ap, ap₂, sym, ◌∙◌, arith}
use Rattle.std.proofs.lemmas.List.{set_split, take_at, drop_at, drop-drop, take_min, length-take, length-drop, length-append}
use Rattle.keywrap_calls.specs.StatusTexts.{fitting, begun_with}

pub ended : (text buffer copied : List ℕ) (cut : ℕ) → 0 < length buffer → cut ≡ min (length buffer - 1) (length text)
    → copied ≡ take cut text → slice_set (copied ++ drop cut buffer) cut 0 ≡ begun_with (fitting text buffer) buffer
ended text buffer copied cut some cut_is copied_is =
    let fits : copied ≡ fitting text buffer = copied_is ∙ ap (λ n. take n text) cut_is ∙ take_min (length buffer - 1) text in
    let counted : length copied ≡ min cut (length text) = ap length copied_is ∙ length-take cut text in
    let len : length copied ≡ cut = omega (arith, counted, cut_is) in
    let whole : length (copied ++ drop cut buffer) ≡ length copied + length (drop cut buffer) = length-append copied (drop cut buffer) in
    let rest : length (drop cut buffer) ≡ length buffer - cut = length-drop cut buffer in
    let room : cut < length (copied ++ drop cut buffer) = omega (arith, whole, rest, some, cut_is, len) in
    let next : suc cut ≡ cut + 1 = omega arith in
    let behind : drop (suc cut) (copied ++ drop cut buffer) ≡ drop (cut + 1) buffer =
    ap (λ n. drop n (copied ++ drop cut buffer)) next ∙ sym (drop-drop 1 cut (copied ++ drop cut buffer))
    ∙ ap (drop 1) (drop_at copied (drop cut buffer) cut len) ∙ drop-drop 1 cut buffer in
    let set : slice_set (copied ++ drop cut buffer) cut 0 ≡ copied ++ 0 ∷ drop (cut + 1) buffer =
    set_split (copied ++ drop cut buffer) cut 0 room ∙ ap₂ (λ xs ys. xs ++ 0 ∷ ys) (take_at copied (drop cut buffer) cut len) behind in
    set ∙ ap₂ (λ xs n. xs ++ 0 ∷ drop (n + 1) buffer) fits (sym len ∙ ap length fits)
