-- The texts that may be new already, while one after the other is copied to the front of the lanes.
use Rattle.std.proofs.Common.{◌≡◌, ◌≢◌, ℕ, ◌+◌, ◌≤◌, ◌<◌, List, get_or, refl, ◌∙◌, arith, inl, inr}
use Rattle.std.proofs.lemmas.Bool.{cases_lt}
use Rattle.key_wrap_lanes.specs.Lanes.{part_at}
use Rattle.lane_runs.specs.Rewraps.{GathersText}
use Rattle.lane_runs.proofs.Placing.{Sets}

-- The texts before one are gathered, and `tried` of them have a place. The places from this one on are as they were.
pub record TextsGathered (n i tried : ℕ) (texts lanes old_places places statuses : List ℕ) : Type 0 where
  pub few : tried ≤ i
  pub gathered : (j : ℕ) → j < i → GathersText n (part_at n j texts) lanes (get_or old_places j 0) (get_or places j 0) (get_or statuses j 0) tried
  pub left : (j : ℕ) → i ≤ j → get_or places j 0 ≡ get_or old_places j 0

pub none_gathered : (n : ℕ) (texts lanes places statuses : List ℕ) → TextsGathered n 0 0 texts lanes places places statuses
none_gathered n texts lanes places statuses = record {
  few = omega arith;
  gathered = λ j below. absurd (omega (arith, below));
  left = λ j from. refl;
}

-- what holds of a text holds after the next one is copied
still_gathered : (n tried place old_place status : ℕ) (text lanes lanes' : List ℕ) → ((p : ℕ) → p < tried → part_at n p lanes' ≡ part_at n p lanes)
    → GathersText n text lanes old_place place status tried → GathersText n text lanes' old_place place status (tried + 1)
still_gathered n tried place old_place status text lanes lanes' same h = record {
  gathered = λ gone other. let was = h.gathered gone other in (omega (arith, was.0), same place was.0 ∙ was.1);
  placed = h.placed;
  unfit = h.unfit;
}

module _ {n i tried : ℕ} {texts lanes old_places places statuses : List ℕ} (h : TextsGathered n i tried texts lanes old_places places statuses) where
  -- the text may be new, and is copied
  pub text_open : {places' : List ℕ} (lanes' : List ℕ) → Sets i tried places places' → part_at n tried lanes' ≡ part_at n i texts
      → ((p : ℕ) → ¬ (p ≡ tried) → part_at n p lanes' ≡ part_at n p lanes) → get_or old_places i 0 ≡ 48 → ¬ (get_or statuses i 0 ≡ 8)
      → TextsGathered n (i + 1) (tried + 1) texts lanes' old_places places' statuses
  text_open {places' = places'} lanes' place copied kept gone other =
      let few : tried ≤ i = h.few in
      record {
        few = omega arith;
        gathered = λ j before. elim (cases_lt j i) [
          | inl less ↦
              let apart : j ≢ i = omega (arith, less) in
              rw (place.other j apart)
              (still_gathered n tried _ _ _ _ lanes lanes' (λ p front. kept p (λ e. absurd (omega (arith, e, front)))) (h.gathered j less))
          | inr from ↦
              let here : j ≡ i = omega (arith, from, before) in
              rw (here, place.own)
              (record { gathered = λ _ _. (omega arith, copied); placed = λ no. absurd (no gone); unfit = λ e. absurd (other e) })
        ];
        left = λ j from. let apart : j ≢ i = omega (arith, from) in place.other j apart ∙ h.left j (omega (arith, from));
      }

  -- it is not
  pub text_closed : {places' : List ℕ} → Sets i 48 places places' → ¬ ((get_or old_places i 0 ≡ 48) × ¬ (get_or statuses i 0 ≡ 8))
      → TextsGathered n (i + 1) tried texts lanes old_places places' statuses
  text_closed {places' = places'} place closed =
      let few : tried ≤ i = h.few in
      record {
        few = omega arith;
        gathered = λ j before. elim (cases_lt j i) [
          | inl less ↦
              let apart : j ≢ i = omega (arith, less) in
              rw (place.other j apart) (h.gathered j less)
          | inr from ↦
              let here : j ≡ i = omega (arith, from, before) in
              rw (here, place.own)
              (record { gathered = λ gone other. absurd (closed (gone, other)); placed = λ _. refl; unfit = λ _. refl })
        ];
        left = λ j from. let apart : j ≢ i = omega (arith, from) in place.other j apart ∙ h.left j (omega (arith, from));
      }
