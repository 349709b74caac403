-- Words of 64 bits and the bytes that spell them (RFC 3394, section 2.1).
use Rattle.std.specs.Prelude.{ℕ, List, [], ◌∷◌, ◌++◌, slice_index}
use Rattle.std.specs.List.{AllByRecursion}
use Rattle.byteorder.specs.Endian.{big_bytes}
use Rattle.block_pair.specs.Words.{IsWord}

-- each element is a word
abbrev pub AreWords : List ℕ → Type 0
AreWords ws = AllByRecursion IsWord ws

-- the word at a place, counted from 0
abbrev pub at : List ℕ → ℕ → ℕ
at ws i = slice_index ws i

-- the eight bytes of a word, the most significant first
unfoldable pub word_bytes : ℕ → List ℕ
word_bytes w = big_bytes 8 w

-- the bytes of words, one after the other
abbrev pub spelled : List ℕ → List ℕ
spelled [] = []
spelled (w ∷ ws) = word_bytes w ++ spelled ws

-- the block a | x of two words
abbrev pub joined : ℕ → ℕ → List ℕ
joined a x = word_bytes a ++ word_bytes x
