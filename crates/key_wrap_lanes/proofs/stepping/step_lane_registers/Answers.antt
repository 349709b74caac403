-- The second half of the block is read before the first half is written.
use Rattle.std.proofs.Common.{rules, ◌≡◌, ℕ, List, [], ◌+◌, ◌*◌, ◌-◌, ◌^◌, ◌<◌, ◌++◌, length, take, drop, bit_xor, arith, refl, ap, ◌∙◌, length-drop, length-take}
use Rattle.std.proofs.lemmas.List.{append-nil, drop_all, take_at, take_all}
use Rattle.std.specs.List.{AllByRecursion}
use borrow.Rule.Slice.PartMut.{put_mid}
use Rattle.block_pair.specs.Words.{IsByte}
use Rattle.block_pair.specs.Each.{each_append, each_take, each_drop}
use Rattle.byteorder.specs.Endian.{big_from}
use Rattle.key_wrap_core.specs.Words.{word_bytes}
use Rattle.key_wrap_core.proofs.Spelling.{length-word_bytes, bytes_of_word, each_byte, read_word}
use Rattle.key_wrap_lanes.proofs.stepping.step_lane_registers.Goals as goal

-- a word that was read in one place is written in another
copied : (w : ℕ) (bs buf now : List ℕ) → AllByRecursion IsByte bs → length bs ≡ 8 → w ≡ big_from 0 8 bs → length buf ≡ 8
    → now ≡ word_bytes w ++ drop 8 buf → now ≡ bs
copied w bs buf now bytes size read eight written =
    let none : drop 8 buf ≡ [] = drop_all 8 buf (omega arith) in
    written ∙ rw (none, append-nil (word_bytes w)) (read_word bs w (omega arith) bytes read ∙ take_all 8 bs (omega arith))

pub returns-clause-word : goal.returns-clause-word
returns-clause-word c = let small : c.read_u64.result < 2 ^ 64 = search rules in rw c.read_u64.ensures at small

pub returns-clause-register : goal.returns-clause-register
unfolding word_bytes
returns-clause-register c =
    let block : List ℕ = c.args.block.now in
    let registers : List ℕ = c.args.registers.now in
    let own : ℕ = c.args.own in
    let sixteen = c.requires.sixteen in
    let inside = c.requires.own in
    let bytes : AllByRecursion IsByte block = each_byte block (search rules) in
    let eight : 8 * own + 8 - 8 * own ≡ 8 = omega arith in
    let half : length block - 8 ≡ 8 = omega arith in
    let written = copied c.read_u64-half.result (take (length block - 8) (drop 8 block)) (take (8 * own + 8 - 8 * own) (drop (8 * own) registers)) c.write_u64.new.buf
    (each_take IsByte (length block - 8) (drop 8 block) (each_drop IsByte 8 block bytes)) (omega (arith, length-take (length block - 8) (drop 8 block), length-drop 8 block))
    c.read_u64-half.ensures (omega (arith, length-take (8 * own + 8 - 8 * own) (drop (8 * own) registers), length-drop (8 * own) registers)) c.write_u64.ensures in
    rw (eight, written, half) refl

pub returns-clause-next_block : goal.returns-clause-next_block
unfolding word_bytes
returns-clause-next_block c =
    let block : List ℕ = c.args.block.now in
    let registers : List ℕ = put_mid (8 * c.args.own) (8 * c.args.own + 8 - 8 * c.args.own) c.args.registers.now c.write_u64.new.buf in
    let next : ℕ = c.args.next in
    let inside = c.requires.next in
    let old : List ℕ = c.args.registers.now in
    let place : ℕ = 8 * c.args.own in
    let k : ℕ = place + 8 - place in
    let bytes : AllByRecursion IsByte old = each_byte old (search rules) in
    let half : AllByRecursion IsByte c.write_u64.new.buf =
    rw c.write_u64.ensures (each_append IsByte (word_bytes c.read_u64-half.result) (drop 8 (take k (drop place old))) (bytes_of_word c.read_u64-half.result)
    (each_drop IsByte 8 (take k (drop place old)) (each_take IsByte k (drop place old) (each_drop IsByte place old bytes)))) in
    let rest : List ℕ = drop k (drop place old) in
    let all : AllByRecursion IsByte registers = each_append IsByte (take place old) (c.write_u64.new.buf ++ rest) (each_take IsByte place old bytes)
    (each_append IsByte c.write_u64.new.buf rest half (each_drop IsByte k (drop place old) (each_drop IsByte place old bytes))) in
    let size' : length registers ≡ length old = search rules in
    let a : ℕ = bit_xor c.read_u64.result c.args.counter in
    let buf : List ℕ = c.write_u64-2.new.buf in
    let size : length buf ≡ 16 = c.write_u64-2.auto.buf ∙ c.requires.sixteen in
    let front : take 8 buf ≡ word_bytes a = ap (take 8) c.write_u64-2.ensures ∙ take_at (word_bytes a) (drop 8 block) 8 (length-word_bytes a) in
    let none : drop (length buf - 8) (drop 8 buf) ≡ [] = drop_all (length buf - 8) (drop 8 buf) (omega (arith, length-drop 8 buf)) in
    let eight : 8 * next + 8 - 8 * next ≡ 8 = omega arith in
    let written = copied c.read_u64-register.result (take (8 * next + 8 - 8 * next) (drop (8 * next) registers)) (take (length buf - 8) (drop 8 buf)) c.write_u64-3.new.buf
    (each_take IsByte (8 * next + 8 - 8 * next) (drop (8 * next) registers) (each_drop IsByte (8 * next) registers all)) (omega (arith, length-take (8 * next + 8 - 8 * next) (drop (8 * next) registers), length-drop (8 * next) registers))
    c.read_u64-register.ensures (omega (arith, length-take (length buf - 8) (drop 8 buf), length-drop 8 buf)) c.write_u64-3.ensures in
    rw (front, none, append-nil c.write_u64-3.new.buf, ← c.read_u64.ensures, written, eight) refl
