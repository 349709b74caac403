-- The lanes of a batch, while the unwrapping of one after the other is ended: those that fit come to the front.
use Rattle.std.proofs.Common.{◌≡◌, ◌≢◌, ℕ, ◌+◌, ◌≤◌, ◌<◌, List, length, get_or, sym, ◌∙◌, arith, inl, inr, refl}
use Rattle.std.proofs.lemmas.Bool.{cases_lt}
use Rattle.key_wrap_core.specs.declared.rewrapping.RewrapForms.{RewrapForms}
use Rattle.key_wrap_lanes.specs.Lanes.{part_at, block_at}
use Rattle.lane_runs.specs.Rewraps.{FitsLane, RefusesLane, PlacedLane}

-- The unwrappings of the lanes before one are ended, and `wrapped` of them have a place in front. The lanes from this one on are as they were.
pub record LanesPlaced (forms : RewrapForms) (n i wrapped : ℕ) (lanes blocks lanes' blocks' places statuses : List ℕ) : Type 0 where
  pub few : wrapped ≤ i
  pub placed : (j : ℕ) → j < i → PlacedLane forms n (part_at n j lanes) (block_at j blocks) lanes' blocks' (get_or places j 0) (get_or statuses j 0) wrapped
  pub missed : (j : ℕ) → j < i → get_or places j 0 ≡ 48 → wrapped < i
  pub left : (j : ℕ) → i ≤ j → part_at n j lanes' ≡ part_at n j lanes
  pub left' : (j : ℕ) → i ≤ j → block_at j blocks' ≡ block_at j blocks
  pub size : length lanes' ≡ length lanes

-- a number of a lane was written
pub record Sets (i v : ℕ) (xs xs' : List ℕ) : Type 0 where
  pub own : get_or xs' i 0 ≡ v
  pub other : (j : ℕ) → j ≢ i → get_or xs' j 0 ≡ get_or xs j 0

-- what holds of a lane with a place holds after the next one has moved
still_placed : (forms : RewrapForms) (n wrapped wrapped' place status : ℕ) (lane block lanes blocks lanes' blocks' : List ℕ) → wrapped ≤ wrapped'
    → ((p : ℕ) → p < wrapped → part_at n p lanes' ≡ part_at n p lanes) → ((p : ℕ) → p < wrapped → block_at p blocks' ≡ block_at p blocks)
    → PlacedLane forms n lane block lanes blocks place status wrapped → PlacedLane forms n lane block lanes' blocks' place status wrapped'
still_placed forms n wrapped wrapped' place status lane block lanes blocks lanes' blocks' more same same' (inl fits) =
    inl (omega (arith, fits.0, more), rw (same place fits.0, same' place fits.0) fits.1)
still_placed forms n wrapped wrapped' place status lane block lanes blocks lanes' blocks' more same same' (inr refused) = inr refused

module _ {forms : RewrapForms} {n i wrapped status : ℕ} {lanes blocks lanes' blocks' places statuses : List ℕ}
    (h : LanesPlaced forms n i wrapped lanes blocks lanes' blocks' places statuses) where
  -- the lane fits, and moves to the front
  pub lane_fits : {lanes'' blocks'' places' statuses' block' : List ℕ} → i < 48 → length lanes'' ≡ length lanes' → Sets i wrapped places places' → Sets i status statuses statuses'
      → part_at n wrapped lanes'' ≡ part_at n i lanes' → ((j : ℕ) → ¬ (j ≡ wrapped) → part_at n j lanes'' ≡ part_at n j lanes')
      → block_at wrapped blocks'' ≡ block' → ((j : ℕ) → ¬ (j ≡ wrapped) → ¬ (j ≡ i) → block_at j blocks'' ≡ block_at j blocks')
      → FitsLane forms (part_at n i lanes') (block_at i blocks') (part_at n i lanes') block' status
      → LanesPlaced forms n (i + 1) (wrapped + 1) lanes blocks lanes'' blocks'' places' statuses'
  lane_fits {lanes'' = lanes''} {blocks'' = blocks''} {places' = places'} {statuses' = statuses'} below long place stat moved kept first other fits =
      let few : wrapped ≤ i = h.few in
      record {
        few = omega arith;
        placed = λ j before. elim (cases_lt j i) [
          | inl less ↦
              let apart : j ≢ i = omega (arith, less) in
              rw (place.other j apart, stat.other j apart)
              (still_placed _ _ _ _ _ _ _ _ _ _ _ _ (omega arith) (λ p front. kept p (λ e. absurd (omega (arith, e, front))))
              (λ p front. other p (λ e. absurd (omega (arith, e, front))) (λ e. absurd (omega (arith, e, front, few)))) (h.placed j less))
          | inr from ↦
              let here : j ≡ i = omega (arith, from, before) in
              rw (here, place.own, stat.own)
              (inl (omega arith, rw (moved, first, ← h.left i (omega arith), ← h.left' i (omega arith)) fits))
        ];
        missed = λ j before gone. elim (cases_lt j i) [
          | inl less ↦
              let apart : j ≢ i = omega (arith, less) in
              let seen : wrapped < i = h.missed j less (sym (place.other j apart) ∙ gone) in
              omega (arith, seen)
          | inr from ↦
              let here : j ≡ i = omega (arith, from, before) in
              let own : wrapped ≡ 48 = sym place.own ∙ (rw here at gone) in
              absurd (omega (arith, own, few, below))
        ];
        left = λ j from. kept j (λ e. absurd (omega (arith, e, from, few))) ∙ h.left j (omega (arith, from));
        left' = λ j from. other j (λ e. absurd (omega (arith, e, from, few))) (λ e. absurd (omega (arith, e, from))) ∙ h.left' j (omega (arith, from));
        size = long ∙ h.size;
      }

  -- the lane is refused, and has no place
  pub lane_refused : {blocks'' places' statuses' : List ℕ} → Sets i 48 places places' → Sets i status statuses statuses'
      → ((j : ℕ) → ¬ (j ≡ i) → block_at j blocks'' ≡ block_at j blocks') → RefusesLane forms (part_at n i lanes') (block_at i blocks') status
      → LanesPlaced forms n (i + 1) wrapped lanes blocks lanes' blocks'' places' statuses'
  lane_refused {blocks'' = blocks''} {places' = places'} {statuses' = statuses'} place stat other refused =
      let few : wrapped ≤ i = h.few in
      record {
        few = omega arith;
        placed = λ j before. elim (cases_lt j i) [
          | inl less ↦
              let apart : j ≢ i = omega (arith, less) in
              rw (place.other j apart, stat.other j apart)
              (still_placed _ _ _ _ _ _ _ _ _ _ _ _ (omega arith) (λ p front. refl) (λ p front. other p (λ e. absurd (omega (arith, e, front, few)))) (h.placed j less))
          | inr from ↦
              let here : j ≡ i = omega (arith, from, before) in
              rw (here, place.own, stat.own) (inr (refl, rw (← h.left i (omega arith), ← h.left' i (omega arith)) refused))
        ];
        missed = λ j before gone. omega arith;
        left = λ j from. h.left j (omega (arith, from));
        left' = λ j from. other j (λ e. absurd (omega (arith, e, from))) ∙ h.left' j (omega (arith, from));
        size = h.size;
      }

pub none_placed : (forms : RewrapForms) (n : ℕ) (lanes blocks places statuses : List ℕ) → LanesPlaced forms n 0 0 lanes blocks lanes blocks places statuses
none_placed forms n lanes blocks places statuses = record {
  few = omega arith;
  placed = λ j below. absurd (omega (arith, below));
  missed = λ j below. absurd (omega (arith, below));
  left = λ j from. refl;
  left' = λ j from. refl;
  size = refl;
}
