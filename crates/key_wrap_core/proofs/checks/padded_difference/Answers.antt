-- The registers hold a key exactly if all parts of the difference are 0.
use Rattle.std.proofs.Common.{rules, ◌≡◌, ℕ, ◌+◌, ◌-◌, ◌/◌, ◌%◌, ◌^◌, ◌<◌, ◌≤◌, List, length, drop, arith, bit_xor, refl, sym, ap, subst, ◌∙◌}
use Rattle.key_wrap_core.specs.declared.lengths.TheConstants.{MAX_KEY}
use Rattle.std.specs.Prelude.{bit_or}
use Rattle.std.specs.List.{All}
use Rattle.byteorder.specs.Endian.{big_from}
use Rattle.key_wrap_core.proofs.Differences.{or_parts, or_both, xor_same, same_xor, blank_of, of_blank}
use Rattle.key_wrap_core.proofs.ThreeChecks.{passes_word, held_word, tail_slice}
use Rattle.key_wrap_core.proofs.checks.padded_difference.Goals as goal

pub returns-clause-passes : goal.returns-clause-passes
returns-clause-passes c = λ e.
    let registers : List ℕ = c.args.registers.now in
    let len : ℕ = c.args.iv % 2 ^ 32 in
    let padding : ℕ = (length registers + (2 ^ 64 - c.given_length.result)) % 2 ^ 64 in
    let prefix : ℕ = bit_xor (c.args.iv / 2 ^ 32) c.from.result in
    let parts = or_parts (bit_or prefix (padding / 8)) c.last_bytes.result e in
    let first = or_parts prefix (padding / 8) parts.0 in
    let given = c.given_length.ensures in
    let some : 8 ≤ length registers = omega (arith, c.requires.1) in
    let most : length registers ≤ MAX_KEY = omega (arith, c.requires.2) in
    let low : length registers < len + 8 = omega (arith, first.1, given) in
    let high : len ≤ length registers = omega (arith, first.1, given) in
    let p : ℕ = length registers - len in
    let word : c.read_u64-last.result ≡ big_from 0 8 (drop (length registers - 8) registers) =
    c.read_u64-last.ensures ∙ ap (big_from 0 8) (tail_slice (length registers - 8) registers) in
    let count : padding % 8 ≡ p = omega (arith, given) in
    let number : big_from 0 8 (drop (length registers - 8) registers) % 256 ^ p ≡ 0 =
    sym (c.last_bytes.ensures ∙ ap (λ (n : ℕ). c.read_u64-last.result % 256 ^ n) count ∙ ap (λ (v : ℕ). v % 256 ^ p) word) ∙ parts.1 in
    let blank = blank_of registers p some (omega arith) (search rules) number in
    let place : length registers - p ≡ len = omega arith in
    passes_word c.args.iv len registers (omega (arith, c.requires.0)) some most (xor_same (c.args.iv / 2 ^ 32) c.from.result first.0 ∙ c.from.ensures) refl low high
    (subst (λ (n : ℕ). All (λ byte. byte ≡ 0) (drop n registers)) place blank)

pub returns-clause-refuses : goal.returns-clause-refuses
returns-clause-refuses c = λ differs key legal holds.
    let registers : List ℕ = c.args.registers.now in
    let h = held_word c.args.iv registers key (search rules) legal holds in
    let given = c.given_length.ensures in
    let some : 8 ≤ length registers = omega (arith, c.requires.1) in
    let most : length registers ≤ MAX_KEY = omega (arith, c.requires.2) in
    let p : ℕ = length registers - length key in
    let place : length registers - p ≡ length key = omega (arith, h.2, h.3) in
    let number = of_blank registers p some (omega (arith, h.2, h.3)) (search rules)
    (subst (λ (n : ℕ). All (λ byte. byte ≡ 0) (drop n registers)) (sym place) h.4) in
    let word : c.read_u64-last.result ≡ big_from 0 8 (drop (length registers - 8) registers) =
    c.read_u64-last.ensures ∙ ap (big_from 0 8) (tail_slice (length registers - 8) registers) in
    let count : (length registers + (2 ^ 64 - c.given_length.result)) % 2 ^ 64 % 8 ≡ p = omega (arith, h.1, h.2, h.3, given) in
    let last : c.last_bytes.result ≡ 0 =
    c.last_bytes.ensures ∙ ap (λ (n : ℕ). c.read_u64-last.result % 256 ^ n) count ∙ ap (λ (v : ℕ). v % 256 ^ p) word ∙ number in
    differs (or_both _ _ (or_both _ _ (same_xor _ _ (h.0 ∙ sym c.from.ensures)) (omega (arith, h.1, h.2, h.3, given))) last)
