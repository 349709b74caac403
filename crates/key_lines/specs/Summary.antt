-- What the summary of a run says of its lines.
use Rattle.std.specs.Prelude.{◌≡◌, ◌+◌, ◌≤◌, List, [], ◌∷◌, length, Option, Some, None, Result, Ok, Err}
use Rattle.key_lines.specs.LineAnswers.{Answer, note_count, notes_of, refusals_of}
use Rattle.key_lines.specs.declared.fault.LineFault.{LineFault}
use Rattle.key_lines.specs.declared.summary.RunSummary.{RunSummary}

-- the first of a list
abbrev pub first_of : {A : Type 0} → List A → Option A
first_of [] = None
first_of (x ∷ xs) = Some x

-- the summary counts exactly these lines: what became of each is known
pub record Summarizes {R : Type 0} (results : List (Result Answer (LineFault R))) (summary : RunSummary R) : Type 0 where
  pub lines : summary.lines ≡ length results
  pub noted : summary.noted ≡ notes_of results
  pub refused : summary.refused ≡ length (refusals_of 1 results)
  pub first_refused : summary.first_refused ≡ first_of (refusals_of 1 results)

-- the first, if there is one, or else this one
abbrev pub first_or : {A : Type 0} → Option A → A → Option A
first_or None x = Some x
first_or (Some y) x = Some y

-- the summary with one more line
abbrev pub counted : {R : Type 0} → RunSummary R → Result Answer (LineFault R) → RunSummary R
counted s (Ok answer) = record {
  lines = s.lines + 1;
  noted = s.noted + note_count answer.note;
  refused = s.refused;
  first_refused = s.first_refused;
}
counted s (Err fault) = record {
  lines = s.lines + 1;
  noted = s.noted;
  refused = s.refused + 1;
  first_refused = first_or s.first_refused (record { line = s.lines + 1; fault = fault });
}

-- the summary with more lines
abbrev pub counted_all : {R : Type 0} → RunSummary R → List (Result Answer (LineFault R)) → RunSummary R
counted_all s [] = s
counted_all s (result ∷ results) = counted_all (counted s result) results

-- each line has a number, and no other count is larger
pub record CanAddLine {R : Type 0} (s : RunSummary R) : Type 0 where
  pub lines : s.lines ≤ 18446744073709551614
  pub noted : s.noted ≤ s.lines
  pub refused : s.refused ≤ s.lines
