-- The meters' pairs are the given ones (`from`, `to`).
use Rattle.std.proofs.Common.{◌≡◌, ap, sym}
use Rattle.keywrap_calls.specs.Rewraps.{already_of}
use Rattle.keywrap_calls.proofs.Rewraps.{byte_parts, rewraps}
use Rattle.keywrap_calls.proofs.many_rewraps.rewrap_slot.Goals as goal

pub returns : goal.returns
returns g c = λ old_kek new_kek flags keks asked.
    let from : g.O.BlockPair.encrypted c.new.result.pair ≡ g.O.BlockPair.encrypted c.args.old.now = ap (λ m. g.O.BlockPair.encrypted m.pair) c.new.ensures in
    let to : g.N.BlockPair.encrypted c.new-2.result.pair ≡ g.N.BlockPair.encrypted c.args.new.now = ap (λ m. g.N.BlockPair.encrypted m.pair) c.new-2.ensures in
    let told = c.rewrap_as.ensures in
    let outcome = c.rewrap_as.result in
    let byte = byte_parts outcome c.outcome_byte.result c.outcome_byte.ensures in
    record {
      already = already_of outcome;
      code = byte.0;
      call = rw (sym from, sym to, sym byte.1) (rewraps _ _ old_kek new_kek flags c.args.text.now c.rewrap_as.new.buf outcome keks asked.0 (rw (asked.1, asked.2) at told.rewraps) told.kept);
      byte_is = byte.2;
    }
