-- The pairs in the meters are AES under the KEKs.
use Rattle.std.proofs.Common.{ap, refl, rules}
use mir.Syntax.{w32}
use mir.Val.{SFits}
use Rattle.keywrap_calls.proofs.CallPromises.{passed_on}
use Rattle.keywrap_calls.proofs.Rewraps.{rewraps}
use Rattle.keywrap_calls.proofs.rewrapping.rewrap.Goals as goal

pub returns : goal.returns
returns g c =
    let told = rw (ap (λ m. m.pair) c.new.ensures, ap (λ m. m.pair) c.new-2.ensures, c.in-Some.ensures.cipher, c.in-Some-aes_of.ensures.cipher) at c.rewrap_as-outcome.ensures in
    let asked = c.in-Some-request_of.ensures.some in
    let fits : SFits w32 c.report.result = search rules in
    rw (passed_on fits c.report.ensures.status, c.report.ensures.already)
    (rewraps _ _ c.args.old_kek.now c.args.new_kek.now c.args.flags _ _ c.rewrap_as-outcome.result (c.in-Some.ensures.accepted.0 refl, c.in-Some-aes_of.ensures.accepted.0 refl) asked.0 (rw (asked.1, asked.2) at told.rewraps) told.kept)
