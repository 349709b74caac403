-- The words of a schedule come back from its bytes.
use Rattle.std.proofs.Common.{◌≡◌, ℕ, zero, suc, ◌*◌, ◌/◌, ◌^◌, ◌<◌, List, [], ◌∷◌, length, slice_index, w32, refl, sym, ◌∙◌}
use Rattle.std.proofs.Common.{arith, length-append}
use Rattle.std.specs.Int.{to_be_bytes}
use Rattle.std.specs.List.{flat_map}
use Rattle.std.proofs.lemmas.List.FromFn.{fill_by_all}
use Rattle.std.proofs.lemmas.Nat.{from_be_bytes-to_be_bytes_4}
use Rattle.byteorder.specs.Endian.{IsRead, big_number}
use Rattle.fips197.specs.KeyExpansion.{key_word}
use Rattle.fips197.specs.ExpandingLaw.{key_word-drop, read_word}
use Rattle.fips197.specs.ScheduleBytes.{words_in}

-- words as bytes
abbrev pub bytes_of : List ℕ → List ℕ
bytes_of ws = flat_map (to_be_bytes w32) ws

length-bytes_of : (ws : List ℕ) → length (bytes_of ws) ≡ 4 * length ws
length-bytes_of [] = refl
length-bytes_of (w ∷ ws) = omega (arith, length-append (to_be_bytes w32 w) (bytes_of ws), length-bytes_of ws)

word_back : (ws : List ℕ) (i : ℕ) → ((i : ℕ) → slice_index ws i < 2 ^ 32) → i < length ws → slice_index ws i ≡ key_word (bytes_of ws) i
word_back [] i fits h = absurd (omega (arith, h))
word_back (w ∷ ws) zero fits h = sym (from_be_bytes-to_be_bytes_4 w (fits 0))
word_back (w ∷ ws) (suc i) fits h = word_back ws i (λ j. fits (suc j)) (omega (arith, h)) ∙ sym (key_word-drop (bytes_of (w ∷ ws)) i)

pub words_in_bytes : (ws : List ℕ) → ((i : ℕ) → slice_index ws i < 2 ^ 32) → words_in (bytes_of ws) ≡ ws
unfolding words_in
words_in_bytes ws fits =
    let count : length (bytes_of ws) / 4 ≡ length ws = omega (arith, length-bytes_of ws) in
    rw count (sym (fill_by_all (key_word (bytes_of ws)) ws (length ws) 0 refl (λ i h. word_back ws i fits h)))

-- what was read are the words in the bytes
pub words_read : (s ws : List ℕ) → length s ≡ 4 * length ws → IsRead big_number 4 s ws → ws ≡ words_in s
unfolding words_in
words_read s ws long read =
    let count : length s / 4 ≡ length ws = omega (arith, long) in
    rw count (fill_by_all (key_word s) ws (length ws) 0 refl (λ i h. read i h ∙ read_word s i))
