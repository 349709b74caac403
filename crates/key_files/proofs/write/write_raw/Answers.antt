-- What one more write took is appended to what had gone out.
use Rattle.key_files.proofs.Common.{◌-◌, ◌≤◌, ◌≡◌, length, take, drop, arith, sym, subst, Appends, Appends-trans, take_rest, length-drop}
use Rattle.std.proofs.Math.Seq.{take-add}
use Rattle.key_files.proofs.write.write_raw.Goals as goal

pub loop-written-preserved : goal.loop-written-preserved
loop-written-preserved g c =
    let kept = c.loop-written.invariant in
    let wrote = c.in-Ok.ensures in
    let all = c.args.bytes.now in
    let written = c.loop-written.written in
    let rest : take (length all - written) (drop written all) ≡ drop written all = take_rest all written in
    let some : length (drop written all) ≡ length all - written = length-drop written all in
    let within : c.in-Ok.count ≤ length (drop written all) = rw rest at wrote.bound in (
      omega arith,
      subst (Appends _ _) (sym (take-add written c.in-Ok.count all)) (Appends-trans _ _ _ _ _ kept.1 (rw rest at wrote.bytes)),
    )
