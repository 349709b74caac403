-- The drill block keeps the law of a block pair.
use Rattle.std.proofs.Common.{◌≡◌, ℕ, ◌+◌, List, length, ◌++◌, take, drop, refl, ap, subst, arith, ◌∙◌, length-append, length-drop}
use Rattle.std.proofs.lemmas.List.{take-append-drop}
use Rattle.std.proofs.Math.Seq.{drop-append_seam, take-append_seam}
use Rattle.block_pair.specs.Words.{IsByte, IsBlock}
use Rattle.block_pair.specs.Pair.{AreInverse}
use Rattle.block_pair.specs.Halves.{swapped_halves}
use Rattle.block_pair.specs.Each.{each_append, each_take, each_drop}

-- exchanging the parts of a list about its place n
exchanged : (n : ℕ) (x y : List ℕ) → length x ≡ n → drop n (x ++ y) ++ take n (x ++ y) ≡ y ++ x
exchanged n x y e =
    subst (λ (k : ℕ). drop k (x ++ y) ++ take k (x ++ y) ≡ y ++ x) e
    (rw (drop-append_seam x y, take-append_seam x y) refl)

-- exchanging the halves makes a block of a block
halves_block : (b : List ℕ) → IsBlock b → IsBlock (swapped_halves b)
halves_block b h = record {
  sixteen =
      let parts : length (drop 8 b ++ take 8 b) ≡ length (drop 8 b) + length (take 8 b) = length-append _ _ in
      let whole : length (take 8 b) + length (drop 8 b) ≡ 16 =
      omega (arith, length-append (take 8 b) (drop 8 b), ap length (take-append-drop 8 b), h.sixteen) in
      omega arith;
  bytes = each_append IsByte (drop 8 b) (take 8 b) (each_drop IsByte 8 b h.bytes) (each_take IsByte 8 b h.bytes);
}

-- exchanging the halves twice gives the block back
halves_twice : (b : List ℕ) → IsBlock b → swapped_halves (swapped_halves b) ≡ b
halves_twice b h =
    let half : length (drop 8 b) ≡ 8 = omega (arith, length-drop 8 b, h.sixteen) in
    exchanged 8 (drop 8 b) (take 8 b) half ∙ take-append-drop 8 b

pub swap_halves_lawful : AreInverse swapped_halves swapped_halves
swap_halves_lawful = record { encrypts = halves_block; decrypts = halves_block; undone = halves_twice; redone = halves_twice }
