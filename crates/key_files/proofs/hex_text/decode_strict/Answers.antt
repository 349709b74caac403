-- One byte after the other.
use Rattle.key_files.proofs.Common.{◌≡◌, ◌*◌, ◌<◌, ◌≤◌, length, arith, rules, sym, ◌∙◌, and_parts, length-set}
use Rattle.key_files.proofs.Strict.{decoded_more, decoded_all}
use Rattle.key_files.proofs.hex_text.decode_strict.Goals as goal

pub loop-i-preserved : goal.loop-i-preserved
loop-i-preserved c =
    let size : length c.args.text.now ≡ 2 * length c.loop-i.bytes = c.loop-i.invariant.0 in
    let room : c.loop-i.i < length c.loop-i.bytes = search rules in
    let same = length-set c.loop-i.bytes c.loop-i.i c.byte_of.result in (
      omega (arith, size, same),
      λ all.
          let before = and_parts _ _ all in
          let two = and_parts _ _ before.1 in
          let high = sym c.is_hex_digit.ensures ∙ two.0 in
          let low = sym c.is_hex_digit-in-loop-i.ensures ∙ two.1 in
          decoded_more _ _ _ _ (omega arith) room high low (c.byte_of.ensures high low) (c.loop-i.invariant.1 before.0),
    )

pub returns : goal.returns
returns c = λ all.
    let end : length c.loop-i.bytes ≤ c.loop-i.i = search rules in
    decoded_all _ _ _ c.loop-i.invariant.0 end (c.loop-i.invariant.1 all)
