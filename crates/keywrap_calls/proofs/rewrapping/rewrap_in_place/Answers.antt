-- The pairs in the meters are AES under the KEKs.
use Rattle.std.proofs.Common.{ap, refl, rules}
use mir.Syntax.{w32}
use mir.Val.{SFits}
use Rattle.keywrap_calls.proofs.CallPromises.{passed_on}
use Rattle.keywrap_calls.proofs.Rewraps.{in_place}
use Rattle.keywrap_calls.proofs.rewrapping.rewrap_in_place.Goals as goal

pub returns : goal.returns
returns g c =
    let told = rw (ap (λ m. m.pair) c.new.ensures, ap (λ m. m.pair) c.new-2.ensures, c.in-Some.ensures.cipher, c.in-Some-aes_of.ensures.cipher) at c.rewrap_as-outcome.ensures in
    let asked = c.in-Some-request_of.ensures.some in
    let fits : SFits w32 c.in_place_status.result = search rules in
    rw (passed_on fits refl) (in_place _ _ c.args.old_kek.now c.args.new_kek.now c.args.forms _ _ _ _ _ (c.in-Some.ensures.accepted.0 refl, c.in-Some-aes_of.ensures.accepted.0 refl) (search rules) (rw (asked.1, asked.2) at told.rewraps) c.in_place_status.ensures.is c.in_place_status.ensures.other)
