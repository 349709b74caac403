-- The promise of key_wrap_lanes for the initial value of these bytes.
use Rattle.std.proofs.Common.{refl, inl}
use Rattle.key_wrap_core.proofs.Refusals.{ok_or_err}
use Rattle.keywrap_portable.proofs.many_steps.keywrap_end_unwrap_many.Goals as goal

pub returns-in-Ok : goal.returns-in-Ok
returns-in-Ok c =
    let given = c.in-Some.ensures.given in
    let ended = c.in-Ok.ensures in
    record {
      results = inl refl;
      bad_iv = (λ s. absurd (let wrong = s in cc), λ bad. absurd (bad given.0));
      bad_length = (λ s. absurd (let wrong = s in cc), λ bad. ok_or_err (ended.refused.bad_length.1 bad.1));
      kept = λ other. absurd (other refl);
      firsts = λ _. ended.firsts;
      ends = λ _ i below. rw given.1 at (ended.ends i below);
      blocks_cleared = λ _. ended.blocks_cleared;
    }
