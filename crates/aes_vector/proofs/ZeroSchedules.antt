-- The memory for a key schedule, filled with zeros.
use Rattle.std.proofs.Common.{◌≡◌, ℕ, List, All, replicate, refl, subst, sym, ap₂, ◌∙◌}
use Rattle.std.proofs.lemmas.List.Elements.{All-replicate}
use Rattle.aes_vector.specs.declared.keys.RoundKey.{RoundKey}
use Rattle.aes_vector.specs.ScheduleNumbers.{numbers, no_key}

pub all_zeros : (keys : List RoundKey) (words : List ℕ) → keys ≡ replicate 15 no_key → words ≡ replicate 60 0 → All (λ x. x ≡ 0) (numbers keys words)
all_zeros keys words zero_keys zero_words =
    let same : replicate 540 0 ≡ numbers (replicate 15 no_key) (replicate 60 0) = refl in
    subst (λ (xs : List ℕ). All (λ x. x ≡ 0) xs) (same ∙ ap₂ numbers (sym zero_keys) (sym zero_words)) (All-replicate (λ x. x ≡ 0) 540 0 refl)
