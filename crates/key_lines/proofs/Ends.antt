-- What a run wrote if its input is known.
use Rattle.key_lines.proofs.Common.{◌≡◌, ℕ, List, [], ◌∷◌, ◌++◌, map, Option, None, Some, Result, Ok, Err, IfSome, inl, inr, refl, sym, subst, ap, ◌∙◌, append-nil, append_assoc, arith, ◌⊎◌, Consumes, Answer, AreLines, AreOneEach, output_of, lines_of, EndsLine, IsAllOf, AreResults, Counts, RunsLines, WritesAnswers, written_for, LineFault, RefusedLine, RunFault, RunOptions, RunSummary}
use Rattle.key_files.specs.Writing.{IsLine}
use Rattle.key_lines.specs.declared.fault.RunFault.TheVariants.{AtLine, Write}
use Rattle.key_lines.proofs.Splitting.{lines_of-ended, lines_of-more, lines_of-nil}

module _ {R : Type 0} (options : RunOptions) (answers : List ℕ → Result Answer R → Type 0) where
  -- the lines of an input, of which some were taken
  rest_lines : (x taken : List ℕ) (left : Option (List ℕ)) → Consumes (Some x) left taken → EndsLine taken ⊎ IsAllOf taken (Some x)
      → (more : List (List ℕ)) × (lines_of x ≡ lines_of taken ++ more)
  rest_lines x taken None p whole = absurd p
  rest_lines x taken (Some y) p (inl ends) = (lines_of y, ap lines_of p ∙ lines_of-more taken y ends)
  rest_lines x taken (Some y) p (inr all) = ([], ap lines_of all ∙ sym (append-nil (lines_of taken)))

  -- an output that is one line, and what follows it
  line_more : (outputs : List (List ℕ)) (output rest : List ℕ) → IsLine output → AreOneEach outputs (lines_of rest)
      → AreOneEach (output ∷ outputs) (lines_of (output ++ rest))
  line_more outputs output rest (line, is, inside) more =
      let split : lines_of (output ++ rest) ≡ line ∷ lines_of rest =
      ap (λ text. lines_of (text ++ rest)) is ∙ ap lines_of (append_assoc line (10 ∷ []) rest) ∙ lines_of-ended line rest inside in
      subst (AreOneEach (output ∷ outputs)) (sym split) (is, more)

  one_each : AreLines answers → (lines : List (List ℕ)) (results : List (Result Answer (LineFault R))) → AreResults options answers lines results
      → AreOneEach (map output_of results) (lines_of (written_for results))
  one_each each [] [] are = subst (AreOneEach []) (sym lines_of-nil) tt
  one_each each (line ∷ lines) (Ok answer ∷ results) are =
      line_more (map output_of results) answer.text (written_for results) (each are.0.0 answer are.0.2) (one_each each lines results are.1)
  one_each each (line ∷ lines) (Err fault ∷ results) are =
      line_more (map output_of results) (10 ∷ []) (written_for results) ([], refl, λ k _ h. absurd (omega (arith, h)))
      (one_each each lines results are.1)
  one_each each [] (result ∷ results) are = absurd are
  one_each each (line ∷ lines) [] are = absurd are

  written_of : (x : List ℕ) (b o q : Option (List ℕ)) (l m : Option (List (RefusedLine R))) (answer : Result (RunSummary R) (RunFault R))
      (r : RunsLines options answers (Some x) b o q l m answer) → (more : List (List ℕ)) → lines_of x ≡ lines_of r.lines.taken ++ more
      → Counts r.lines.results more answer → WritesAnswers options answers x o q answer
  written_of x b o q l m answer r more split counts = record {
    lines = lines_of r.lines.taken;
    more = more;
    split = split;
    results = r.lines.results;
    answered = r.lines.answered;
    counts = counts;
    one_each = λ each. one_each each (lines_of r.lines.taken) r.lines.results r.lines.answered;
    unsent = r.unsent;
    sends = r.sends;
    all_but = r.all_but;
  }

  pub headline : (a b o q : Option (List ℕ)) (l m : Option (List (RefusedLine R))) (answer : Result (RunSummary R) (RunFault R))
      → RunsLines options answers a b o q l m answer → IfSome a (λ text. WritesAnswers options answers text o q answer)
  headline None b o q l m answer r = tt
  headline (Some x) b o q l m (Ok summary) r =
      let taken = r.lines.taken in
      let all : x ≡ taken = r.ends.1 in
      written_of x b o q l m (Ok summary) r [] (ap lines_of all ∙ sym (append-nil (lines_of taken))) (r.ends.0, refl)
  headline (Some x) b o q l m (Err (AtLine refused)) r =
      let rest = rest_lines x r.lines.taken r.left r.lines.stands_after r.lines.whole in
      written_of x b o q l m (Err (AtLine refused)) r rest.0 rest.1 r.ends.0
  headline (Some x) b o q l m (Err (Write answered unsent)) r =
      let rest = rest_lines x r.lines.taken r.left r.lines.stands_after r.lines.whole in
      written_of x b o q l m (Err (Write answered unsent)) r rest.0 rest.1 r.ends.0
