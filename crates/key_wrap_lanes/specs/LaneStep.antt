-- What a step does to a lane, made or undone: the two differ in the counter and in the two registers.
use Rattle.std.specs.Prelude.{◌≡◌, ℕ, ◌*◌, List, ◌++◌, take, drop, bit_xor}
use borrow.Rule.Slice.PartMut.{put_mid}
use Rattle.block_pair.specs.Words.{IsWord}
use Rattle.byteorder.specs.Endian.{big_from}
use Rattle.key_wrap_core.specs.Words.{word_bytes}

-- The second half of the block goes into one register, and the block becomes its first half with the counter, and
-- another register.
pub record SteppedLane (counter own next : ℕ) (text block text' block' : List ℕ) : Type 0 where
  pub word : IsWord (big_from 0 8 block)
  pub first : take 8 text' ≡ take 8 text
  pub register : drop 8 text' ≡ put_mid (8 * own) 8 (drop 8 text) (take 8 (drop 8 block))
  pub next_block : block' ≡ word_bytes (bit_xor (big_from 0 8 block) counter) ++ take 8 (drop (8 * next) (drop 8 text'))
