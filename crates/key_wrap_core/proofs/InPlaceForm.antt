-- The parts of the caller's buffer: its first word, and the registers that the machine is lent.
use Rattle.std.proofs.Common.{◌≡◌, ℕ, ◌+◌, ◌-◌, ◌*◌, ◌<◌, ◌≤◌, List, [], ◌++◌, length, get_or, take, drop, replicate, refl, ap, ◌∙◌, arith, length-append, length-drop}
use Rattle.std.proofs.Common.{length-take}
use Rattle.std.proofs.Math.Seq.{take-add}
use Rattle.std.proofs.lemmas.List.{append_assoc, append-nil, take_at, drop_at, drop_all, take_all, take-append-drop}
use borrow.Rule.Slice.PartMut.{put_mid}
use Rattle.byteorder.specs.Endian.{big_from}
use Rattle.block_pair.specs.Words.{IsWord}
use Rattle.key_wrap_core.specs.Words.{word_bytes}
use Rattle.key_wrap_core.specs.Lengths.{IsPaddedKeyLength}
use Rattle.key_wrap_core.specs.Padded.{aiv, padded, word_count}
use Rattle.key_wrap_core.specs.PaddedRegisters.{HasKeyLength}
use Rattle.key_wrap_core.specs.InPlace.{IsPaddedRoom, key_in}
use Rattle.key_wrap_core.proofs.PaddedForm.{aiv_word}
use Rattle.key_wrap_core.proofs.Spelling.{length-word_bytes, word_front, read_word, each_byte}

-- the machine is lent all but the first word
pub lent_length : (buf : List ℕ) → 8 ≤ length buf → 8 + length (take (length buf - 8) (drop 8 buf)) ≡ length buf
lent_length buf some = omega (arith, length-take (length buf - 8) (drop 8 buf), length-drop 8 buf)

-- beside the word that was read
pub lent_text : (word : ℕ) (text : List ℕ) → 8 ≤ length text → ((i : ℕ) → get_or text i 0 < 256) → word ≡ big_from 0 8 text
    → word_bytes word ++ take (length text - 8) (drop 8 text) ≡ text
lent_text word text some bytes read =
    let rest : take (length text - 8) (drop 8 text) ≡ drop 8 text = take_all (length text - 8) (drop 8 text) (omega (arith, length-drop 8 text)) in
    rw (rest, read_word text word some (each_byte text bytes) read) (take-append-drop 8 text)

-- what it leaves in its part of the buffer
pub registers_now : (buf registers : List ℕ) → 8 ≤ length buf → length registers ≡ length buf - 8
    → drop 8 (put_mid 8 (length buf - 8) buf registers) ≡ registers
registers_now buf registers some size =
    let past : drop (length buf - 8) (drop 8 buf) ≡ [] = drop_all (length buf - 8) (drop 8 buf) (omega (arith, length-drop 8 buf)) in
    drop_at (take 8 buf) (registers ++ drop (length buf - 8) (drop 8 buf)) 8 (omega (arith, length-take 8 buf)) ∙ rw past (append-nil registers)

-- the rest of what holds a key is the padded key
pub held_rest : (iv len : ℕ) (registers : List ℕ) → IsWord iv → HasKeyLength (word_bytes iv ++ registers) len → registers ≡ padded (take len registers)
held_rest iv len registers word held =
    let rest : drop 8 (word_bytes iv ++ registers) ≡ registers = drop_at (word_bytes iv) registers 8 (length-word_bytes iv) in
    let key : List ℕ = take len (drop 8 (word_bytes iv ++ registers)) in
    let legal : IsPaddedKeyLength (length key) = rw held.size held.legal in
    (word_front iv (aiv (length key)) registers (padded key) word (aiv_word (length key) legal.1) held.holds).1
    ∙ ap (λ (bs : List ℕ). padded (take len bs)) rest

-- and its key has the length that it is held with
pub held_size : (iv len : ℕ) (registers : List ℕ) → HasKeyLength (word_bytes iv ++ registers) len → length (take len registers) ≡ len
held_size iv len registers held =
    let own : take len (drop 8 (word_bytes iv ++ registers)) ≡ take len registers =
    ap (take len) (drop_at (word_bytes iv) registers 8 (length-word_bytes iv)) in
    rw (← own) held.size

-- room for a padded key, with its padding written
pub padded_room : (m : ℕ) (old zeroed : List ℕ) → IsPaddedRoom m (length old) → zeroed ≡ replicate (length (take (length old - (8 + m)) (drop (8 + m) old))) 0
    → drop 8 (put_mid (8 + m) (length old - (8 + m)) old zeroed) ≡ padded (key_in m old)
padded_room m old zeroed room blank =
    let whole : m ≤ 8 * word_count m = omega arith in
    let size : length (key_in m old) ≡ m = omega (arith, length-take m (drop 8 old), length-drop 8 old, room.1) in
    let count : length (take (length old - (8 + m)) (drop (8 + m) old)) ≡ 8 * word_count (length (key_in m old)) - length (key_in m old) =
    rw size (omega (arith, length-take (length old - (8 + m)) (drop (8 + m) old), length-drop (8 + m) old, room.1)) in
    let none : drop (length old - (8 + m)) (drop (8 + m) old) ≡ [] =
    drop_all (length old - (8 + m)) (drop (8 + m) old) (omega (arith, length-drop (8 + m) old)) in
    let front : take (8 + m) old ≡ take 8 old ++ key_in m old = take-add 8 m old in
    let zeros : List ℕ = replicate (8 * word_count (length (key_in m old)) - length (key_in m old)) 0 in
    let written : zeroed ++ drop (length old - (8 + m)) (drop (8 + m) old) ≡ zeros =
    rw none (append-nil zeroed ∙ blank ∙ ap (λ (n : ℕ). replicate n 0) count) in
    let shape : put_mid (8 + m) (length old - (8 + m)) old zeroed ≡ take 8 old ++ (key_in m old ++ zeros) =
    rw (front, written) (append_assoc (take 8 old) (key_in m old) zeros) in
    ap (drop 8) shape ∙ drop_at (take 8 old) (key_in m old ++ zeros) 8 (omega (arith, length-take 8 old, room.1))

-- the same in registers that begin with the key
pub padded_after : (m : ℕ) (old zeroed : List ℕ) → IsPaddedRoom m (8 + length old) → zeroed ≡ replicate (length (take (length old - m) (drop m old))) 0
    → put_mid m (length old - m) old zeroed ≡ padded (take m old)
padded_after m old zeroed room blank =
    let whole : m ≤ 8 * word_count m = omega arith in
    let size : length (take m old) ≡ m = omega (arith, length-take m old, room.1) in
    let count : length (take (length old - m) (drop m old)) ≡ 8 * word_count (length (take m old)) - length (take m old) =
    rw size (omega (arith, length-take (length old - m) (drop m old), length-drop m old, room.1)) in
    let none : drop (length old - m) (drop m old) ≡ [] = drop_all (length old - m) (drop m old) (omega (arith, length-drop m old)) in
    rw none (ap (λ (bs : List ℕ). take m old ++ bs) (append-nil zeroed ∙ blank ∙ ap (λ (n : ℕ). replicate n 0) count))

-- The first word of the text was read and cleared, and the machine was lent the rest: it was given the text, and
-- its result follows eight zeros.
pub record FirstCleared (A : ℕ) (text buf registers : List ℕ) : Type 0 where
  pub given : word_bytes A ++ take (length buf - 8) (drop 8 buf) ≡ text
  pub long : 8 + length (take (length buf - 8) (drop 8 buf)) ≡ length text
  pub left : put_mid 8 (length buf - 8) buf registers ≡ replicate 8 0 ++ registers

pub first_cleared : (A : ℕ) (text buf registers : List ℕ) → 8 ≤ length text → word_bytes A ≡ take 8 text → buf ≡ replicate 8 0 ++ drop 8 text
    → FirstCleared A text buf registers
first_cleared A text buf registers some front blank =
    let mid : List ℕ = replicate 8 0 ++ drop 8 text in
    let long : length mid ≡ length text = omega (arith, length-append (replicate 8 0) (drop 8 text), length-drop 8 text) in
    let all : take (length mid - 8) (drop 8 text) ≡ drop 8 text = take_all (length mid - 8) (drop 8 text) (omega (arith, length-drop 8 text)) in
    let none : drop (length mid - 8) (drop 8 text) ≡ [] = drop_all (length mid - 8) (drop 8 text) (omega (arith, length-drop 8 text)) in
    rw blank (record {
      given = rw (all, front) (take-append-drop 8 text);
      long = rw all (omega (arith, length-drop 8 text));
      left = rw (none, append-nil registers) refl;
    })

-- a key that was copied after the first word
pub copied_key : (k : ℕ) (buffer key : List ℕ) → 8 ≤ length buffer → key_in (length key) (put_mid 8 k buffer key) ≡ key
copied_key k buffer key some =
    ap (take (length key)) (drop_at (take 8 buffer) (key ++ drop k (drop 8 buffer)) 8 (omega (arith, length-take 8 buffer)))
    ∙ take_at key (drop k (drop 8 buffer)) (length key) refl

-- a text whose first word was read and whose rest was copied
pub text_again : (A : ℕ) (text copied : List ℕ) → 8 ≤ length text → word_bytes A ≡ take 8 text → copied ≡ take (length text - 8) (drop 8 text)
    → word_bytes A ++ copied ≡ text
text_again A text copied some front copy =
    let rest : take (length text - 8) (drop 8 text) ≡ drop 8 text = take_all (length text - 8) (drop 8 text) (omega (arith, length-drop 8 text)) in
    rw (copy, rest, front) (take-append-drop 8 text)
