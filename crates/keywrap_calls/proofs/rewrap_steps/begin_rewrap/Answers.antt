-- The flags request the forms, and whether what is new is passed.
use Rattle.std.proofs.Common.{inl, refl}
use Rattle.std.proofs.lemmas.Bool.{false≢true}
use Rattle.keywrap_calls.proofs.rewrap_steps.begin_rewrap.Goals as goal

pub returns-in-Ok : goal.returns-in-Ok
returns-in-Ok c =
    let named = c.in-Some.ensures.some in
    let legal = rw (named.1, named.2) at c.in-Ok.ensures.bad_length in
    record {
      statuses = inl refl;
      bad_length = (λ s. absurd (let wrong = s in cc), λ none. absurd (false≢true (legal.1 (λ can. none (named.0, can)))));
      kept = λ no. absurd (no refl);
      begins = λ _. (c.in-Ok.first, c.number_of.ensures, rw (named.1, named.2) at c.in-Ok.ensures.begins, c.in-Ok.ensures.starts);
      refuses = λ no. absurd (no refl);
    }
