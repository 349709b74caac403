-- A part of a buffer is copied over one before it.
use Rattle.std.proofs.Common.{◌≡◌, ℕ, ◌+◌, ◌*◌, ◌-◌, ◌≤◌, List, ◌++◌, length, take, drop, refl, sym, ap, ◌∙◌, arith}
use Rattle.std.proofs.lemmas.List.{append_assoc, drop-drop}
use Rattle.std.proofs.Math.Nat.{mul-le-mul_left}
use lib.Seq.{paste}
use borrow.Rule.Slice.PartMut.{put_mid}
use Rattle.key_wrap_core.proofs.Parts.{Writes, part_written, part_kept, part_length}
use Rattle.key_wrap_lanes.specs.Lanes.{part_at}

-- the copy, as a write
as_written : (n from to : ℕ) (parts : List ℕ) → paste parts (n * to) (drop (n * from) parts) (n * from + n - n * from)
    ≡ put_mid (n * to) (n * from + n - n * from) parts (take (n * from + n - n * from) (drop (n * from) parts))
as_written n from to parts =
    let k : ℕ = n * from + n - n * from in
    let moved : List ℕ = take k (drop (n * from) parts) in
    append_assoc (take (n * to) parts) moved (drop (n * to + k) parts)
    ∙ ap (λ (rest : List ℕ). take (n * to) parts ++ (moved ++ rest)) (sym (drop-drop k (n * to) parts))

writes : (n from to : ℕ) (parts : List ℕ) → n * from + n ≤ length parts → to ≤ from
    → Writes n to (n * to) (n * from + n - n * from) parts (take (n * from + n - n * from) (drop (n * from) parts))
writes n from to parts room before =
    let whole : n * from + n - n * from ≡ n = omega arith in
    record {
      place = refl;
      whole = whole;
      size = part_length n (n * from) (n * from + n - n * from) parts whole room;
      room = omega (arith, mul-le-mul_left n before);
    }

pub part_moved : (n from to : ℕ) (parts parts' : List ℕ) → n * from + n ≤ length parts → to ≤ from
    → parts' ≡ paste parts (n * to) (drop (n * from) parts) (n * from + n - n * from) → part_at n to parts' ≡ part_at n from parts
part_moved n from to parts parts' room before is =
    let whole : n * from + n - n * from ≡ n = omega arith in
    ap (part_at n to) (is ∙ as_written n from to parts) ∙ part_written (writes n from to parts room before)
    ∙ ap (λ (k : ℕ). take k (drop (n * from) parts)) whole

pub part_stays : (n from to : ℕ) (parts parts' : List ℕ) (j : ℕ) → n * from + n ≤ length parts → to ≤ from
    → parts' ≡ paste parts (n * to) (drop (n * from) parts) (n * from + n - n * from) → ¬ (j ≡ to) → part_at n j parts' ≡ part_at n j parts
part_stays n from to parts parts' j room before is apart =
    ap (part_at n j) (is ∙ as_written n from to parts) ∙ part_kept j (writes n from to parts room before) apart
