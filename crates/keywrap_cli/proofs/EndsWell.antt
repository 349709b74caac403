-- What a run says that ends with status 0, and that its answers to lines are lines.
use Rattle.keywrap_cli.proofs.Common.{◌≡◌, ℕ, ◌+◌, List, [], ◌∷◌, ◌++◌, length, map, Option, Some, None, Result, Ok, Err, Vec, refl, sym, subst, ap, ◌∙◌, arith, IfSome, Global, AllByRecursion, Appends, cipher, cipher_by, IsLine, Answer, AreLines, note_count, notes_of, output_of, refusals_of, LineFault, Note, IsWrappingWithIv, IsKindWith, Form, Kind, Refusal, IsOneLine, line_notation, Answers, Makes, MayLack, done_of, kind_note, OpensKeks, ReadsFile, ReadsInput, last_kek, RunsOperation, RunsOperationLines, RunsUnder, WritesTheLines, AnswersEachLine, AnswersLines, IsRefusedBefore, WritesFrom, Notation, Ciphers, Keks, Done, JobFault, What}
use Rattle.std.proofs.Common.{◌≢◌, append-nil}
use Rattle.std.specs.Prelude.{IfOk, MatchResult}
use Rattle.key_lines.specs.Lines.{lines_of}
use Rattle.key_lines.specs.Running.{AreResults, RunsLines, WritesAnswers, written_for}
use Rattle.key_lines.specs.Summary.{first_of}
use Rattle.key_lines.specs.declared.fault.RefusedLine.{RefusedLine}
use Rattle.key_lines.specs.declared.fault.RunFault.{RunFault}
use Rattle.key_lines.specs.declared.job.Note.TheVariants as notes
use Rattle.key_lines.specs.declared.run.RunOptions.{RunOptions}
use Rattle.key_lines.specs.declared.summary.RunSummary.{RunSummary}
use Rattle.key_lines.specs.declared.text.TextNotation.{TextNotation}
use Rattle.key_lines.specs.declared.text.TextNotation.TheVariants as texts
use Rattle.key_wrap_core.specs.declared.forms.Form.TheVariants as forms
use Rattle.key_wrap_core.specs.declared.forms.Kind.TheVariants as kinds
use Rattle.keywrap_cli.specs.Operation.{AnswersAllLines, AnswersLinesOf, AnswersWhole, AreOutputs, EndsWell, FindsKeys, IsAnsweredLine, IsWrapped, IsWrappedLine}
use Rattle.keywrap_cli.specs.declared.outcome.Done.TheVariants.{Written}
use Rattle.keywrap_cli.specs.declared.what.What.TheVariants.{Convert, Check, Rewrap}
use Rattle.keywrap_cli.specs.declared.what.Conversion.TheVariants.{Wrap, Unwrap, UnwrapAny}
use Rattle.keywrap_cli.proofs.KekFiles.{keks_weaker, under_keks}

-- an answer whose note is not that of `none` is to a wrapping, unless the operation wraps or rewraps
of_kind : (iv : ℕ) (E : List ℕ → List ℕ) (X : List ℕ) (kind : Kind) → IsKindWith iv E X kind → Written ≡ done_of (kind_note kind)
    → (form : Form) × (key : List ℕ) × IsWrappingWithIv form iv E key X
of_kind iv E X (kinds.Plain m) is done = (forms.Plain, is.0, is.2)
of_kind iv E X (kinds.Padded m) is done = (forms.Padded, is.0, is.2)
of_kind iv E X kinds.Neither is done = cc

wrapped_of : (what : What) (notation : Notation) (E F : List ℕ → List ℕ) (X : List ℕ) (answer : Answer) → Makes what notation E F X answer
    → Written ≡ done_of answer.note → IsWrapped what E X
wrapped_of (Convert (Wrap form)) notation E F X answer h done = tt
wrapped_of (Convert (Unwrap form)) notation E F X answer h done = (h.0, h.1.wrapping)
wrapped_of (Convert (UnwrapAny iv)) notation E F X answer h done = (h.1.0, h.0, h.1.1.wrapping)
wrapped_of (Check iv) notation E F X answer h done = of_kind iv E X h.0 h.1 (done ∙ ap done_of h.3)
wrapped_of (Rewrap forms pass_new) notation E F X answer h done = tt

-- ---- a run over a whole input

whole_wrapped : (what : What) (notation : Notation) (E F : List ℕ → List ℕ) (input input' out out' : Option (List ℕ))
    (text : Result (Vec ℕ Global) JobFault) → ReadsInput notation input input' text
    → WritesFrom (Answers what notation E F) (MayLack what E F) text out out' (Ok Written)
    → (X : List ℕ) × ReadsFile notation input input' (Ok X) × IsWrapped what E X
whole_wrapped what notation E F input input' out out' (Ok X) read rest =
    (X.items, read, wrapped_of what notation E F X.items rest.0 rest.1.0 rest.2)
whole_wrapped what notation E F input input' out out' (Err fault) read rest = let no = rest.0 in cc

pub whole_ends_well : (what : What) (notation : Notation) (keks keks' : Keks (Option (List ℕ))) (input input' out out' : Option (List ℕ))
    → RunsOperation what notation keks keks' input input' out out' (Ok Written) → AnswersWhole what notation keks keks' input input'
whole_ends_well what notation keks keks' input input' out out' run =
    keks_weaker keks keks' (λ K L. RunsUnder what notation (cipher K) (cipher L) input input' out out' (Ok Written))
    (λ K L. (X : List ℕ) × ReadsFile notation input input' (Ok X) × IsWrapped what (cipher K) X)
    (λ fault. IsRefusedBefore {T = Done} fault input input' out out' (Ok Written)) (λ _. ⊥)
    (λ K L h. whole_wrapped what notation (cipher K) (cipher L) input input' out out' h.text h.read h.rest) (λ fault h. let no = h.0 in cc) run

-- ---- a run over lines

-- an answer in a notation of lines is a line
line_in : (notation : TextNotation) (text : List ℕ) → IsOneLine (line_notation notation) text → IsLine text
line_in texts.Hex text line = line
line_in texts.Base64 text line = line
line_in texts.Base64Url text line = line

are_lines : (what : What) (notation : TextNotation) (E F : List ℕ → List ℕ) → AreLines (Answers what (line_notation notation) E F)
are_lines what notation E F X answer h = line_in notation answer.text h.1

abbrev Results : Type 0
Results = List (Result Answer (LineFault Refusal))

nothing_first : {A : Type 0} (xs : List A) → first_of xs ≡ None → xs ≡ []
nothing_first [] h = refl
nothing_first (x ∷ xs) h = cc

unnoted : (note : Note) → note_count note ≡ 0 → Written ≡ done_of note
unnoted notes.None zero = refl
unnoted notes.NoKey zero = cc
unnoted notes.AlreadyNew zero = refl

same_length : (options : RunOptions) (answers : List ℕ → Result Answer Refusal → Type 0) (lines : List (List ℕ)) (results : Results)
    → AreResults options answers lines results → length lines ≡ length results
same_length options answers [] [] are = refl
same_length options answers (line ∷ lines) (result ∷ results) (h, rest) =
    let same = same_length options answers lines results rest in
    omega (arith, same)
same_length options answers [] (result ∷ results) are = absurd are
same_length options answers (line ∷ lines) [] are = absurd are

module _ (options : RunOptions) (what : What) (E F : List ℕ → List ℕ) where
  abbrev LineAnswers : List ℕ → Result Answer Refusal → Type 0
  LineAnswers X answer = Answers what (line_notation options.notation) E F X answer

  all_answered : (lines : List (List ℕ)) (results : Results) (n : ℕ) → AreResults options LineAnswers lines results → refusals_of n results ≡ []
      → AreOutputs (IsAnsweredLine options.notation what E F) lines (map output_of results)
  all_answered [] [] n are none = tt
  all_answered (line ∷ lines) (Ok answer ∷ results) n (h, rest) none =
      ((h.0, h.1, (answer, h.2.0, refl)), all_answered lines results (n + 1) rest none)
  all_answered (line ∷ lines) (Err fault ∷ results) n are none = cc
  all_answered [] (result ∷ results) n are none = absurd are
  all_answered (line ∷ lines) [] n are none = absurd are

all_wrapped : (options : RunOptions) (iv : ℕ) (E F : List ℕ → List ℕ) (lines : List (List ℕ)) (results : Results) (n : ℕ)
    → AreResults options (LineAnswers options (Check iv) E F) lines results → refusals_of n results ≡ [] → notes_of results ≡ 0
    → AllByRecursion (IsWrappedLine options.notation iv E) lines
all_wrapped options iv E F [] [] n are none zero = tt
all_wrapped options iv E F (line ∷ lines) (Ok answer ∷ results) n (h, rest) none zero =
    let done = unnoted answer.note (omega (arith, zero)) in
    ((h.0, h.1, wrapped_of (Check iv) (line_notation options.notation) E F h.0 answer h.2.0 done), all_wrapped options iv E F lines results (n + 1) rest none (omega (arith, zero)))
all_wrapped options iv E F (line ∷ lines) (Err fault ∷ results) n are none zero = cc
all_wrapped options iv E F [] (result ∷ results) n are none zero = absurd are
all_wrapped options iv E F (line ∷ lines) [] n are none zero = absurd are

-- the text has the lines of a run that reached its end
some_lines : (text : List ℕ) (lines more : List (List ℕ)) (results : Results) (summary : RunSummary Refusal)
    → lines_of text ≡ lines ++ more → more ≡ [] → length lines ≡ length results → summary.lines ≡ length results → summary.lines ≢ 0
    → lines_of text ≢ []
some_lines text lines more results summary split end same count some empty =
    let none : lines ++ more ≡ [] = sym split ∙ empty in
    let whole : lines ++ more ≡ lines = ap (λ m. lines ++ m) end ∙ append-nil lines in
    let zero : length lines ≡ 0 = ap length (sym whole ∙ none) in
    some (omega (arith, count, same, zero))

module _ (options : RunOptions) (E F : List ℕ → List ℕ) (text : List ℕ) (out out' : Option (List ℕ)) (summary : RunSummary Refusal) where
  finds_keys : (what : What) → EndsWell what summary → WritesAnswers options (LineAnswers options what E F) text out out' (Ok summary)
      → lines_of text ≢ [] → FindsKeys what options.notation E text
  finds_keys (Convert conversion) well w some = tt
  finds_keys (Check iv) well w some =
      let none : refusals_of 1 w.results ≡ [] = nothing_first (refusals_of 1 w.results) (sym w.counts.0.first_refused ∙ well.none_refused) in
      let zero : notes_of w.results ≡ 0 = sym w.counts.0.noted ∙ well.all_found tt in
      let all = all_wrapped options iv E F w.lines w.results 1 w.answered none zero in
      let whole : w.lines ≡ lines_of text = sym (w.split ∙ ap (λ m. w.lines ++ m) w.counts.1 ∙ append-nil w.lines) in
      (some, subst (λ (lines : List (List ℕ)). AllByRecursion (IsWrappedLine options.notation iv E) lines) whole all)
  finds_keys (Rewrap forms pass_new) well w some = tt

  text_answered : (what : What) → EndsWell what summary → WritesAnswers options (LineAnswers options what E F) text out out' (Ok summary)
      → AnswersLinesOf options.notation what E F text out out' × FindsKeys what options.notation E text
  text_answered what well w =
      let none : refusals_of 1 w.results ≡ [] = nothing_first (refusals_of 1 w.results) (sym w.counts.0.first_refused ∙ well.none_refused) in
      let all = all_answered options what E F w.lines w.results 1 w.answered none in
      let whole : w.lines ≡ lines_of text = sym (w.split ∙ ap (λ m. w.lines ++ m) w.counts.1 ∙ append-nil w.lines) in
      let sent : w.sends.sent ≡ written_for w.results = sym (w.sends.kept ∙ ap (λ m. w.sends.sent ++ m) w.all_but ∙ append-nil w.sends.sent) in
      let some = some_lines text w.lines w.more w.results summary w.split w.counts.1
      (same_length options (LineAnswers options what E F) w.lines w.results w.answered) w.counts.0.lines well.some in (
        record {
          some = some;
          outputs = map output_of w.results;
          each = subst (λ (lines : List (List ℕ)). AreOutputs (IsAnsweredLine options.notation what E F) lines (map output_of w.results)) whole all;
          written = subst (λ (s : List ℕ). Appends out out' s) sent w.sends.written;
          one_each = w.one_each (are_lines what options.notation E F);
        },
        finds_keys what well w some,
      )

-- the same, if the text is known
known_answered : (input out out' : Option (List ℕ)) (options : RunOptions) (what : What) (E F : List ℕ → List ℕ) (summary : RunSummary Refusal)
    → EndsWell what summary → IfSome input (λ text. WritesAnswers options (LineAnswers options what E F) text out out' (Ok summary))
    → IfSome input (λ text. AnswersLinesOf options.notation what E F text out out' × FindsKeys what options.notation E text)
known_answered None out out' options what E F summary well w = tt
known_answered (Some text) out out' options what E F summary well w = text_answered options E F text out out' summary what well w

each_line : (input out out' : Option (List ℕ)) (options : RunOptions) (what : What) (E F : List ℕ → List ℕ)
    (run : Result (RunSummary Refusal) (RunFault Refusal))
    → IfSome input (λ text. WritesAnswers options (LineAnswers options what E F) text out out' run)
    → IfSome input (λ text. AnswersEachLine options (LineAnswers options what E F) text out out' run)
each_line None out out' options what E F run w = tt
each_line (Some text) out out' options what E F run w = record { written = w; one_each = w.one_each (are_lines what options.notation E F) }

-- a run that read its KEKs
module _ (what : What) (options : RunOptions) (keks keks' : Keks (Option (List ℕ))) (ciphers : Ciphers) (opened : OpensKeks keks keks' (Ok ciphers))
    (input out out' : Option (List ℕ)) where
  abbrev E : List ℕ → List ℕ
  E = cipher_by ciphers.kek

  abbrev F : List ℕ → List ℕ
  F = cipher_by (last_kek ciphers.kek ciphers.new_kek)

  pub lines_run : (input' : Option (List ℕ)) (log log' : Option (List (RefusedLine Refusal))) (run : Result (RunSummary Refusal) (RunFault Refusal))
      → RunsLines options (LineAnswers options what E F) input input' out out' log log' run
      → IfSome input (λ text. WritesAnswers options (LineAnswers options what E F) text out out' run)
      → RunsOperationLines what options keks keks' input input' out out' log log' (Ok run)
  lines_run input' log log' run lines w =
      under_keks keks keks' ciphers
      (λ w v. AnswersLines options (Answers what (line_notation options.notation) (cipher_by w) (cipher_by v)) input input' out out' log log' (Ok run))
      (λ fault. (log' ≡ log) × IsRefusedBefore fault input input' out out' (Ok run)) opened (lines, w)

  pub lines_written : (run : Result (RunSummary Refusal) (RunFault Refusal))
      → IfSome input (λ text. WritesAnswers options (LineAnswers options what E F) text out out' run)
      → WritesTheLines what options keks keks' input out out' run
  lines_written run w =
      under_keks keks keks' ciphers
      (λ w v. IfSome input (λ text. AnswersEachLine options (Answers what (line_notation options.notation) (cipher_by w) (cipher_by v)) text out out' run)) (λ _. ⊥)
      opened (each_line input out out' options what E F run w)

  pub lines_end_well : (run : Result (RunSummary Refusal) (RunFault Refusal))
      → IfSome input (λ text. WritesAnswers options (LineAnswers options what E F) text out out' run)
      → IfOk run (λ summary. EndsWell what summary → AnswersAllLines what options.notation keks keks' input out out')
  lines_end_well (Ok summary) w = λ well.
      under_keks keks keks' ciphers (λ w v. IfSome input
      (λ text. AnswersLinesOf options.notation what (cipher_by w) (cipher_by v) text out out' × FindsKeys what options.notation (cipher_by w) text)) (λ _. ⊥)
      opened (known_answered input out out' options what E F summary well w)
  lines_end_well (Err fault) w = tt
