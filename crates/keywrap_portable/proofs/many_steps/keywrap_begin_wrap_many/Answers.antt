-- The promise of key_wrap_lanes for the initial value of these bytes.
use Rattle.std.proofs.Common.{refl, inl}
use Rattle.key_wrap_core.proofs.Refusals.{ok_or_err}
use Rattle.keywrap_portable.proofs.many_steps.keywrap_begin_wrap_many.Goals as goal

pub returns-in-Ok : goal.returns-in-Ok
returns-in-Ok c =
    let given = c.in-Some.ensures.given in
    let begun = c.in-Ok.ensures in
    record {
      statuses = inl refl;
      bad_iv = (λ s. absurd (let wrong = s in cc), λ bad. absurd (bad given.0));
      bad_length = (λ s. absurd (let wrong = s in cc), λ bad. ok_or_err (begun.refused.bad_length.1 bad.1));
      kept = λ other. absurd (other refl);
      none_done = λ _. begun.none_done;
      begins = λ _ i below E. rw given.1 at (begun.begins i below E);
    }
