-- The blocks of a buffer, while one block after the other is written.
use Rattle.std.proofs.Common.{◌≡◌, ℕ, ◌+◌, ◌*◌, ◌≤◌, ◌<◌, List, ◌++◌, length, take, drop, sym, ap, refl, ◌∙◌, arith, inl, inr}
use Rattle.std.proofs.Common.{length-append, length-drop, length-take}
use Rattle.std.proofs.lemmas.Bool.{cases_lt}
use Rattle.std.proofs.lemmas.List.{drop_at, take_at, drop-take}
use Rattle.std.proofs.lemmas.Slice.{take-put_mid_below, drop-put_mid}
use borrow.Rule.Slice.PartMut.{put_mid}
use Rattle.block_lanes.specs.Blocks.{block_at}

-- the blocks before one are what F makes of them, and the others are as they were
pub record Written (F : List ℕ → List ℕ) (i : ℕ) (old new : List ℕ) : Type 0 where
  pub done : (j : ℕ) → j < i → block_at j new ≡ F (block_at j old)
  pub left : (j : ℕ) → i ≤ j → block_at j new ≡ block_at j old
  pub size : length new ≡ length old

pub none_written : (F : List ℕ → List ℕ) (old : List ℕ) → Written F 0 old old
none_written F old = record { done = λ j below. absurd (omega arith); left = λ j from. refl; size = refl }

-- the block that is written
here : (i : ℕ) (xs block : List ℕ) → length block ≡ 16 → 16 * i + 16 ≤ length xs → block_at i (put_mid (16 * i) 16 xs block) ≡ block
here i xs block size room =
    ap (take 16) (drop_at (take (16 * i) xs) (block ++ drop 16 (drop (16 * i) xs)) (16 * i) (omega (arith, length-take (16 * i) xs)))
    ∙ take_at block (drop 16 (drop (16 * i) xs)) 16 size

-- the buffer keeps its length
same_size : (i : ℕ) (xs block : List ℕ) → length block ≡ 16 → 16 * i + 16 ≤ length xs → length (put_mid (16 * i) 16 xs block) ≡ length xs
same_size i xs block size room =
    let rest : List ℕ = drop 16 (drop (16 * i) xs) in
    omega (
      arith,
      length-append (take (16 * i) xs) (block ++ rest),
      length-append block rest,
      length-take (16 * i) xs,
      length-drop 16 (drop (16 * i) xs),
      length-drop (16 * i) xs,
    )

-- any other block
elsewhere : (i j : ℕ) (xs block : List ℕ) → length block ≡ 16 → 16 * i + 16 ≤ length xs → ¬ (j ≡ i)
    → block_at j (put_mid (16 * i) 16 xs block) ≡ block_at j xs
elsewhere i j xs block size room other =
    elim (cases_lt j i) [
      | inl before ↦
          sym (drop-take (16 * j) 16 (put_mid (16 * i) 16 xs block))
          ∙ ap (drop (16 * j)) (take-put_mid_below (16 * i) 16 xs block (16 * j + 16) (omega arith) (omega arith)) ∙ drop-take (16 * j) 16 xs
      | inr from ↦ ap (take 16) (drop-put_mid (16 * i) 16 xs block (16 * j) (omega arith) (omega arith) (omega arith))
    ]

pub next_written : {F : List ℕ → List ℕ} {i k : ℕ} {old new block : List ℕ} → k ≡ 16 → length block ≡ 16 → 16 * i + 16 ≤ length new
    → Written F i old new → block ≡ F (take k (drop (16 * i) new)) → Written F (i + 1) old (put_mid (16 * i) k new block)
next_written {F = F} {i = i} {old = old} {new = new} {block = block} whole size room h is =
    let own : block ≡ F (block_at i old) = rw (whole, h.left i (omega arith)) at is in
    let other : (j : ℕ) → ¬ (j ≡ i) → block_at j (put_mid (16 * i) 16 new block) ≡ block_at j new = λ j apart. elsewhere i j new block size room apart in
    rw whole (record {
      done = λ j below. elim (cases_lt j i) [
        | inl less ↦ other j (λ e. absurd (omega (arith, e, less))) ∙ h.done j less
        | inr from ↦
            let is_here : j ≡ i = omega arith in
            rw is_here (here i new block size room ∙ own)
      ];
      left = λ j from. other j (λ e. absurd (omega (arith, e, from))) ∙ h.left j (omega arith);
      size = same_size i new block size room ∙ h.size;
    })
