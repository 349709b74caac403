-- The bytes of one register among the bytes of all.
use Rattle.std.proofs.Common.{◌≡◌, ℕ, zero, suc, ◌+◌, ◌*◌, ◌<◌, List, [], ◌∷◌, ◌++◌, length, take, drop, set, replicate, sym, ap, ◌∙◌, arith, length-append}
use Rattle.std.proofs.Common.{length-drop}
use Rattle.std.proofs.lemmas.List.{append_assoc, take_all, take-append-drop}
use Rattle.std.proofs.Math.Seq.{take-append-add, drop-append-add, take-append_seam, drop-append_seam}
use Rattle.std.specs.List.{AllByRecursion}
use Rattle.key_wrap_core.specs.Words.{at, word_bytes, spelled}
use Rattle.byteorder.specs.Endian.{big_from}
use Rattle.block_pair.specs.Words.{IsByte, IsBlock}
use Rattle.block_pair.specs.Each.{each_append}
use Rattle.key_wrap_core.proofs.Spelling.{length-word_bytes, read_word, bytes_of_word}

-- what holds of each element holds of each after one is replaced
pub each_set : (P : ℕ → Type 0) (xs : List ℕ) (i v : ℕ) → AllByRecursion P xs → P v → AllByRecursion P (set xs i v)
each_set P [] i v hs h = hs
each_set P (x ∷ xs) zero v hs h = (h, hs.1)
each_set P (x ∷ xs) (suc i) v hs h = (hs.0, each_set P xs i v hs.1 h)

pub each_replicate : (P : ℕ → Type 0) (n v : ℕ) → P v → AllByRecursion P (replicate n v)
each_replicate P zero v h = tt
each_replicate P (suc n) v h = (h, each_replicate P n v h)

-- past the eight bytes of the first word
past_take : (w k : ℕ) (ws : List ℕ) → take (8 * suc k) (word_bytes w ++ spelled ws) ≡ word_bytes w ++ take (8 * k) (spelled ws)
past_take w k ws =
    let size : 8 * suc k ≡ length (word_bytes w) + 8 * k = omega (arith, length-word_bytes w) in
    ap (λ (m : ℕ). take m (word_bytes w ++ spelled ws)) size ∙ take-append-add (word_bytes w) (spelled ws) (8 * k)

past_drop : (w k : ℕ) (ws : List ℕ) → drop (8 * suc k) (word_bytes w ++ spelled ws) ≡ drop (8 * k) (spelled ws)
past_drop w k ws =
    let size : 8 * suc k ≡ length (word_bytes w) + 8 * k = omega (arith, length-word_bytes w) in
    ap (λ (m : ℕ). drop m (word_bytes w ++ spelled ws)) size ∙ drop-append-add (word_bytes w) (spelled ws) (8 * k)

pub first_eight : (w : ℕ) (bs : List ℕ) → take 8 (word_bytes w ++ bs) ≡ word_bytes w
first_eight w bs = ap (λ (m : ℕ). take m (word_bytes w ++ bs)) (sym (length-word_bytes w)) ∙ take-append_seam (word_bytes w) bs

pub past_eight : (w : ℕ) (bs : List ℕ) → drop 8 (word_bytes w ++ bs) ≡ bs
past_eight w bs = ap (λ (m : ℕ). drop m (word_bytes w ++ bs)) (sym (length-word_bytes w)) ∙ drop-append_seam (word_bytes w) bs

-- the bytes of register i
pub register_bytes : (ws : List ℕ) (i : ℕ) → i < length ws → take 8 (drop (8 * i) (spelled ws)) ≡ word_bytes (at ws i)
register_bytes [] i h = absurd (omega arith)
register_bytes (w ∷ ws) zero h = first_eight w (spelled ws)
register_bytes (w ∷ ws) (suc i) h = ap (take 8) (past_drop w i ws) ∙ register_bytes ws i (omega arith)

-- register i is written
pub register_set : (ws : List ℕ) (i v : ℕ) → i < length ws
    → take (8 * i) (spelled ws) ++ (word_bytes v ++ drop 8 (drop (8 * i) (spelled ws))) ≡ spelled (set ws i v)
register_set [] i v h = absurd (omega arith)
register_set (w ∷ ws) zero v h = ap (λ (bs : List ℕ). word_bytes v ++ bs) (past_eight w (spelled ws))
register_set (w ∷ ws) (suc i) v h =
    let rest = register_set ws i v (omega arith) in
    rw (past_take w i ws, past_drop w i ws, append_assoc (word_bytes w) (take (8 * i) (spelled ws)) (word_bytes v ++ drop 8 (drop (8 * i) (spelled ws))))
    (ap (λ (bs : List ℕ). word_bytes w ++ bs) rest)

-- A block whose first word is read as a number and whose last eight bytes are copied is both, joined.
pub block_split : (block copied : List ℕ) (w : ℕ) → length block ≡ 16 → AllByRecursion IsByte block → w ≡ big_from 0 8 block → copied ≡ take 8 (drop 8 block)
    → word_bytes w ++ copied ≡ block
block_split block copied w size bytes read copy =
    let all : take 8 (drop 8 block) ≡ drop 8 block = take_all 8 (drop 8 block) (omega (arith, length-drop 8 block)) in
    rw (copy, all, read_word block w (omega arith) bytes read) (take-append-drop 8 block)

-- a word and a register are a block
pub word_register : (w : ℕ) (register : List ℕ) → length register ≡ 8 → AllByRecursion IsByte register → IsBlock (word_bytes w ++ register)
word_register w register size bytes = record {
  sixteen = omega (arith, length-append (word_bytes w) register, length-word_bytes w);
  bytes = each_append IsByte (word_bytes w) register (bytes_of_word w) bytes;
}
