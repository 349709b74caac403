-- Words and the bytes that spell them: what fixes what, and lengths.
use Rattle.std.proofs.Common.{◌≡◌, ℕ, zero, suc, ◌*◌, ◌%◌, ◌^◌, ◌<◌, ◌≤◌, List, [], ◌∷◌, length, get_or, take, drop, ◌++◌, refl, sym, ap, ◌∙◌, arith}
use Rattle.std.proofs.Common.{length-append, length-drop, length-take}
use Rattle.std.proofs.lemmas.List.{drop_at, take-append-drop}
use Rattle.std.proofs.lemmas.Nat.{be_bytes_8}
use Rattle.std.specs.Int.{w64, byte_at, bytes_high_first, from_be_bytes}
use Rattle.std.specs.List.{AllByRecursion}
use Rattle.byteorder.specs.Numbers.{big_from-bytes, length-bytes_high_first}
use Rattle.byteorder.specs.Endian.{big_from}
use Rattle.block_pair.specs.Words.{IsByte, IsWord, IsBlock}
use Rattle.block_pair.specs.Each.{each_append, each_take, each_drop}
use Rattle.key_wrap_core.specs.Words.{AreWords, at, word_bytes, spelled, joined}

-- a word has eight bytes
pub length-word_bytes : (w : ℕ) → length (word_bytes w) ≡ 8
unfolding word_bytes
length-word_bytes w = length-bytes_high_first 8 w

pub length-spelled : (ws : List ℕ) → length (spelled ws) ≡ 8 * length ws
length-spelled [] = refl
length-spelled (w ∷ ws) = omega (arith, length-append (word_bytes w) (spelled ws), length-word_bytes w, length-spelled ws)

-- each byte of a number is a byte
is_byte_at : (k x : ℕ) → IsByte (byte_at k x)
is_byte_at zero x = omega arith
is_byte_at (suc k) x = omega arith

number_bytes : (n x : ℕ) → AllByRecursion IsByte (bytes_high_first n x)
number_bytes zero x = tt
number_bytes (suc n) x = (is_byte_at n x, number_bytes n x)

pub bytes_of_word : (w : ℕ) → AllByRecursion IsByte (word_bytes w)
unfolding word_bytes
bytes_of_word w = number_bytes 8 w

-- the low 64 bits of a number are what its eight bytes read as
read_low : (v : ℕ) (rest : List ℕ) → big_from 0 8 (word_bytes v ++ rest) ≡ v % 2 ^ 64
unfolding word_bytes
read_low v rest = big_from-bytes 8 v rest

-- bytes that begin with eight of a number fix its low 64 bits and what follows
pub low_front : (v w : ℕ) (xs ys : List ℕ) → word_bytes v ++ xs ≡ word_bytes w ++ ys → (v % 2 ^ 64 ≡ w % 2 ^ 64) × (xs ≡ ys)
low_front v w xs ys e = (
  sym (read_low v xs) ∙ ap (big_from 0 8) e ∙ read_low w ys,
  sym (drop_at (word_bytes v) xs 8 (length-word_bytes v)) ∙ ap (drop 8) e ∙ drop_at (word_bytes w) ys 8 (length-word_bytes w),
)

-- bytes that begin with a word fix it and what follows
pub word_front : (v w : ℕ) (xs ys : List ℕ) → IsWord v → IsWord w → word_bytes v ++ xs ≡ word_bytes w ++ ys → (v ≡ w) × (xs ≡ ys)
word_front v w xs ys hv hw e =
    let front = low_front v w xs ys e in
    (omega (arith, front.0), front.1)

-- the low 64 bits of both parts of a block are fixed by it
pub joined_low : (a x b y : ℕ) → joined a x ≡ joined b y → (a % 2 ^ 64 ≡ b % 2 ^ 64) × (x % 2 ^ 64 ≡ y % 2 ^ 64)
joined_low a x b y e =
    let front = low_front a b (word_bytes x) (word_bytes y) e in
    (front.0, (low_front x y [] [] (ap (λ (r : List ℕ). r ++ []) front.1)).0)

pub word_bytes_same : (v w : ℕ) → IsWord v → IsWord w → word_bytes v ≡ word_bytes w → v ≡ w
word_bytes_same v w hv hw e = (word_front v w [] [] hv hw (ap (λ (b : List ℕ). b ++ []) e)).0

-- each place of a list of words holds a word, and past the end there is 0
pub word_place : (ws : List ℕ) → AreWords ws → (i : ℕ) → IsWord (at ws i)
word_place [] h i = omega arith
word_place (w ∷ ws) h zero = h.0
word_place (w ∷ ws) h (suc i) = word_place ws h.1 i

pub joined_same : (a x b y : ℕ) → IsWord a → IsWord x → IsWord b → IsWord y → joined a x ≡ joined b y → (a ≡ b) × (x ≡ y)
joined_same a x b y ha hx hb hy e =
    let front = word_front a b (word_bytes x) (word_bytes y) ha hb e in
    (front.0, word_bytes_same x y hx hy front.1)

no_word : (w : ℕ) (bs : List ℕ) → [] ≡ word_bytes w ++ bs → ⊥
no_word w bs e = omega (arith, ap length e, length-append (word_bytes w) bs, length-word_bytes w)

-- bytes fix the words that they spell
pub spelled_same : (vs ws : List ℕ) → AreWords vs → AreWords ws → spelled vs ≡ spelled ws → vs ≡ ws
spelled_same [] [] hv hw e = refl
spelled_same [] (w ∷ ws) hv hw e = absurd (no_word w (spelled ws) e)
spelled_same (v ∷ vs) [] hv hw e = absurd (no_word v (spelled vs) (sym e))
spelled_same (v ∷ vs) (w ∷ ws) hv hw e =
    let front = word_front v w (spelled vs) (spelled ws) hv.0 hw.0 e in
    let rest = spelled_same vs ws hv.1 hw.1 front.1 in
    cc (front.0, rest)

pub joined_block : (a x : ℕ) → IsBlock (joined a x)
joined_block a x = record {
  sixteen = omega (arith, length-append (word_bytes a) (word_bytes x), length-word_bytes a, length-word_bytes x);
  bytes = each_append IsByte (word_bytes a) (word_bytes x) (bytes_of_word a) (bytes_of_word x);
}

-- what holds of each byte holds at each place, and past the end there is 0
byte_place : (bs : List ℕ) → AllByRecursion IsByte bs → (i : ℕ) → get_or bs i 0 < 256
byte_place [] h i = omega arith
byte_place (b ∷ bs) h zero = h.0
byte_place (b ∷ bs) h (suc i) = byte_place bs h.1 i

pub each_byte : (bs : List ℕ) → ((i : ℕ) → get_or bs i 0 < 256) → AllByRecursion IsByte bs
each_byte [] h = tt
each_byte (b ∷ bs) h = (h 0, each_byte bs (λ i. h (suc i)))

-- a word that eight bytes spell
pub record Spells (bs : List ℕ) : Type 0 where
  pub w : ℕ
  pub word : IsWord w
  pub bytes : word_bytes w ≡ bs

pub word_of_bytes : (bs : List ℕ) → length bs ≡ 8 → AllByRecursion IsByte bs → Spells bs
unfolding word_bytes
word_of_bytes bs l h = record {
  w = from_be_bytes w64 bs;
  word =
      let b0 = byte_place bs h 0 in
      let b1 = byte_place bs h 1 in
      let b2 = byte_place bs h 2 in
      let b3 = byte_place bs h 3 in
      let b4 = byte_place bs h 4 in
      let b5 = byte_place bs h 5 in
      let b6 = byte_place bs h 6 in
      let b7 = byte_place bs h 7 in
      omega arith;
  bytes = be_bytes_8 bs (from_be_bytes w64 bs) l (byte_place bs h) refl;
}

-- what is read of eight bytes spells them
pub read_word : (bs : List ℕ) (w : ℕ) → 8 ≤ length bs → AllByRecursion IsByte bs → w ≡ big_from 0 8 bs → word_bytes w ≡ take 8 bs
read_word bs w l h e =
    let first = word_of_bytes (take 8 bs) (omega (arith, length-take 8 bs)) (each_take IsByte 8 bs h) in
    let split : word_bytes first.w ++ drop 8 bs ≡ bs = rw first.bytes (take-append-drop 8 bs) in
    let low : w ≡ first.w % 2 ^ 64 = e ∙ ap (big_from 0 8) (sym split) ∙ read_low first.w (drop 8 bs) in
    let same : w ≡ first.w = omega (arith, first.word) in
    ap word_bytes same ∙ first.bytes

-- some words spell the bytes
pub record Spelled (bs : List ℕ) : Type 0 where
  pub ws : List ℕ
  pub words : AreWords ws
  pub bytes : spelled ws ≡ bs

pub words_of_bytes : (k : ℕ) (bs : List ℕ) → length bs ≡ 8 * k → AllByRecursion IsByte bs → Spelled bs
words_of_bytes zero [] l h = record { ws = []; words = tt; bytes = refl }
words_of_bytes zero (b ∷ bs) l h = absurd (omega arith)
words_of_bytes (suc k) bs l h =
    let first = word_of_bytes (take 8 bs) (omega (arith, length-take 8 bs)) (each_take IsByte 8 bs h) in
    let rest = words_of_bytes k (drop 8 bs) (omega (arith, length-drop 8 bs)) (each_drop IsByte 8 bs h) in
    record {
      ws = first.w ∷ rest.ws;
      words = (first.word, rest.words);
      bytes = rw (first.bytes, rest.bytes) (take-append-drop 8 bs);
    }

-- a block is two joined words
pub record Joined (b : List ℕ) : Type 0 where
  pub a : ℕ
  pub x : ℕ
  pub word_a : IsWord a
  pub word_x : IsWord x
  pub bytes : joined a x ≡ b

pub block_words : (b : List ℕ) → IsBlock b → Joined b
block_words b h =
    let first = word_of_bytes (take 8 b) (omega (arith, length-take 8 b, h.sixteen)) (each_take IsByte 8 b h.bytes) in
    let last = word_of_bytes (drop 8 b) (omega (arith, length-drop 8 b, h.sixteen)) (each_drop IsByte 8 b h.bytes) in
    record {
      a = first.w;
      x = last.w;
      word_a = first.word;
      word_x = last.word;
      bytes = rw (first.bytes, last.bytes) (take-append-drop 8 b);
    }
