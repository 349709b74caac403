-- What a run has answered, and how it ends.
use Rattle.key_lines.proofs.Common.{◌≡◌, ◌≢◌, ℕ, ◌+◌, ◌<◌, ◌≤◌, true, false, List, [], ◌∷◌, ◌++◌, length, map, Option, None, Result, Ok, Err, inl, inr, refl, sym, ap, ◌∙◌, arith, subst, append_assoc, append-nil, ◌⊎◌, concat, Consumes, Consumes-trans, Consumes-nil, Appends-nil, map-append, FileFault, Answer, Logs, answered, line_fault_of, output_of, refusal_of, refusals_of, Sends, lines_of, EndsWithLf, EndsLine, line_limit, IsAllOf, ReadsLine, TakesLine, AreResults, FindsLine, LineAnswer, LineResult, MakesOutput, RunsLines, StandsAfter, StepEnds, Steps, StepsLine, StopsFor, is_own, written_for, CanAddLine, counted, counted_all, Line, LineFault, RefusedLine, RunFault, Note, RunOptions, RunSummary}
use Rattle.std.proofs.lemmas.List.Folds.{concat-append}
use Rattle.key_files.specs.declared.fault.FileFault.TheVariants as files
use Rattle.key_lines.specs.declared.line.Line.TheVariants.{Ended, Last, Missing}
use Rattle.key_lines.specs.declared.fault.LineFault.TheVariants.{Input, Refused, Memory, TooManyLines}
use Rattle.key_lines.specs.declared.fault.RunFault.TheVariants.{AtLine, Write}
use Rattle.key_lines.proofs.Blocks.{Sends-trans}
use Rattle.key_lines.proofs.Splitting.{first_ended, lines_of-more, lines_of-nil}
use Rattle.key_lines.proofs.Summaries.{Logs-nil, Logs-trans, counted_all-append, counts_all, refusals_of-append, summarizes_all}
use Rattle.key_lines.proofs.Takings.{all_of-both}

ends-append : (xs ys : List ℕ) → EndsWithLf ys → EndsWithLf (xs ++ ys)
ends-append xs ys (front, is) = (xs ++ front, ap (λ l. xs ++ l) is ∙ sym (append_assoc xs front (10 ∷ [])))

module _ {R : Type 0} (options : RunOptions) (answers : List ℕ → Result Answer R → Type 0) where
  -- ---- one line

  taken_of : (a b : Option (List ℕ)) (line : List ℕ) (met : Line) → met ≢ Missing → ReadsLine line_limit a b line (Ok met)
      → (t : TakesLine a b line) × StepEnds options answers t.taken a b b (Ok met)
  taken_of a b line Ended some r = (r.0, (r.1, refl))
  taken_of a b line Last some r = (r.0, (r.1, Consumes-nil b))
  taken_of a b line Missing some r = absurd (some refl)

  within_limit : (a b : Option (List ℕ)) (line : List ℕ) (met : Line) → met ≢ Missing → ReadsLine line_limit a b line (Ok met) → length line ≤ line_limit
  within_limit a b line Ended some r = r.2
  within_limit a b line Last some r = r.2
  within_limit a b line Missing some r = absurd (some refl)

  whole_line : (a : Option (List ℕ)) (taken : List ℕ) → EndsWithLf taken ⊎ IsAllOf taken a → EndsLine taken ⊎ IsAllOf taken a
  whole_line a taken (inl lf) = inl (inr lf)
  whole_line a taken (inr all) = inr all

  -- a line that was answered, or skipped
  pub FindsLine-line : (a b o : Option (List ℕ)) (log log' : Option (List (RefusedLine R))) (block block' line : List ℕ) (s s' : RunSummary R)
      (output : List ℕ) (made : Result Note (LineFault R)) (met : Line) → met ≢ Missing → ReadsLine line_limit a b line (Ok met)
      → LineResult options answers line (answered output made) → output ≡ output_of (answered output made) → block' ≡ block ++ output
      → ((text : List ℕ) → s' ≡ counted s (answered text made)) → CanAddLine s'
      → ((text : List ℕ) → Logs log log' (refusal_of (s.lines + 1) (answered text made)))
      → FindsLine options answers a b o o log log' block block' s s' (Ok met)
  FindsLine-line a b o log log' block block' line s s' output made met some r h is put counts room logs =
      let t = taken_of a b line met some r in
      let result = answered output made in
      record {
        left = b;
        steps = record {
          lines = record {
            taken = t.0.taken;
            results = result ∷ [];
            stands_after = t.0.stands_after;
            whole = whole_line a t.0.taken t.0.whole;
            answered = subst (λ ls. AreResults options answers ls (result ∷ [])) (sym t.0.one_line) (h, tt);
          };
          sends = record { sent = []; written = Appends-nil o; kept = ap (λ l. block ++ l) (append-nil (output_of result) ∙ sym is) ∙ sym put };
          counts = counts output;
          room = room;
          logs = subst (Logs log log') (sym (append-nil (refusal_of (s.lines + 1) result))) (logs output);
        };
        ends = t.1;
      }

  Steps-none : (a o : Option (List ℕ)) (log : Option (List (RefusedLine R))) (block block' : List ℕ) (s : RunSummary R) → block' ≡ block → CanAddLine s
      → Steps options answers a a o o log log block block' s s
  Steps-none a o log block block' s same room = record {
    lines = record {
      taken = [];
      results = [];
      stands_after = Consumes-nil a;
      whole = inl (inl refl);
      answered = subst (λ ls. AreResults options answers ls []) (sym lines_of-nil) tt;
    };
    sends = record { sent = []; written = Appends-nil o; kept = append-nil block ∙ sym same };
    counts = refl;
    room = room;
    logs = Logs-nil log;
  }

  -- no line, or one at which the run stops
  pub FindsLine-none : {found : Result Line (LineFault R)} {a c : Option (List ℕ)} (o : Option (List ℕ)) (log : Option (List (RefusedLine R)))
      (block block' : List ℕ) (s : RunSummary R) → block' ≡ block → CanAddLine s → StepEnds options answers [] a a c found
      → FindsLine options answers a c o o log log block block' s s found
  unfolding Steps-none
  FindsLine-none {a = a} o log block block' s same room ends = record { left = a; steps = Steps-none a o log block block' s same room; ends = ends }

  pub stops_unread : (a c : Option (List ℕ)) (line : List ℕ) (fault : FileFault) → ReadsLine line_limit a c line (Err fault)
      → StopsFor options answers a c (line_fault_of fault)
  stops_unread a c line files.TooLong r = (line, r.0, r.1)
  stops_unread a c line files.Read r = (line, r.0, r.1)
  stops_unread a c line files.Memory r = (line, inl r.0, r.1)
  stops_unread a c line (files.BadDigit at) r = absurd r
  stops_unread a c line files.OddDigits r = absurd r
  stops_unread a c line (files.BadCharacter at) r = absurd r
  stops_unread a c line (files.BehindPadding at) r = absurd r
  stops_unread a c line files.BadBase64Length r = absurd r
  stops_unread a c line files.TrailingBits r = absurd r

  pub stops_refused : (a c : Option (List ℕ)) (line shown : List ℕ) (met : Line) (fault : LineFault R) → met ≢ Missing → ReadsLine line_limit a c line (Ok met)
      → shown ≡ line → (fault ≡ Memory) ⊎ ((options.keep_going ≡ false) × (is_own fault ≡ true) × LineAnswer options.notation answers shown (Err fault))
      → StopsFor options answers a c fault
  stops_refused a c line shown met fault some r same made = at fault made
    where
      t : TakesLine a c shown
      t = subst (TakesLine a c) (sym same) (taken_of a c line met some r).0

      fits : length shown ≤ line_limit
      fits = subst (λ l. length l ≤ line_limit) (sym same) (within_limit a c line met some r)

      at : (f : LineFault R) → (f ≡ Memory) ⊎ ((options.keep_going ≡ false) × (is_own f ≡ true) × LineAnswer options.notation answers shown (Err f))
          → StopsFor options answers a c f
      at f (inl is) = subst (StopsFor options answers a c) (sym is) (shown, inr t, fits)
      at (Refused refusal) (inr m) = (shown, t, m.2, m.0)
      at (Input (files.BadDigit place)) (inr m) = (shown, t, m.2, m.0)
      at (Input files.OddDigits) (inr m) = (shown, t, m.2, m.0)
      at (Input (files.BadCharacter place)) (inr m) = (shown, t, m.2, m.0)
      at (Input (files.BehindPadding place)) (inr m) = (shown, t, m.2, m.0)
      at (Input files.BadBase64Length) (inr m) = (shown, t, m.2, m.0)
      at (Input files.TrailingBits) (inr m) = (shown, t, m.2, m.0)
      at (Input files.Read) (inr m) = cc m.1
      at (Input files.TooLong) (inr m) = cc m.1
      at (Input files.Memory) (inr m) = cc m.1
      at Memory (inr m) = cc m.1
      at TooManyLines (inr m) = cc m.1

  -- what makes the output of a line finds neither that it cannot be read, nor that there were too many
  pub never_unread : (line output : List ℕ) (fault : LineFault R) → MakesOutput options answers line output (Err fault)
      → (fault ≢ Input files.Read) × (fault ≢ TooManyLines)
  never_unread line output fault (inl is) = (λ e. cc, λ e. cc)
  never_unread line output fault (inr m) = (λ e. cc m.1, λ e. cc m.1)

  -- the block was written
  pub FindsLine-sent : {found : Result Line (LineFault R)} {a c o : Option (List ℕ)} (q : Option (List ℕ)) {log log' : Option (List (RefusedLine R))}
      {block mid : List ℕ} (after : List ℕ) {s s' : RunSummary R} → FindsLine options answers a c o o log log' block mid s s' found → Sends o q mid after
      → FindsLine options answers a c o q log log' block after s s' found
  FindsLine-sent {o = o} q {block = block} {mid = mid} after f sent =
      let steps = f.steps in
      let w = block ++ written_for steps.lines.results in
      let sends = Sends-trans o o q w mid after [] steps.sends (subst (λ l. Sends o q l after) (sym (append-nil mid)) sent) in
      record {
        left = f.left;
        steps = record {
          lines = steps.lines;
          sends = subst (λ l. Sends o q l after) (append-nil w) sends;
          counts = steps.counts;
          room = steps.room;
          logs = steps.logs;
        };
        ends = f.ends;
      }

  -- ---- one line after others

  AreResults-append : (lines more : List (List ℕ)) (results others : List (Result Answer (LineFault R))) → AreResults options answers lines results
      → AreResults options answers more others → AreResults options answers (lines ++ more) (results ++ others)
  AreResults-append [] more [] others h next = next
  AreResults-append [] more (o ∷ os) others h next = absurd h
  AreResults-append (l ∷ ls) more [] others h next = absurd h
  AreResults-append (l ∷ ls) more (o ∷ os) others h next = (h.0, AreResults-append ls more os others h.1 next)

  joined : {a b c o p q : Option (List ℕ)} {l m n : Option (List (RefusedLine R))} {block mid after : List ℕ} {s s' s'' : RunSummary R}
      (old : Steps options answers a b o p l m block mid s s') → EndsLine old.lines.taken → Steps options answers b c p q m n mid after s' s''
      → Steps options answers a c o q l n block after s s''
  joined {a} {b} {c} {o} {p} {q} {l} {m} {n} {block} {mid} {after} {s} {s'} {s''} old ends new =
      let results = old.lines.results in
      let others = new.lines.results in
      let written : (block ++ written_for results) ++ written_for others ≡ block ++ written_for (results ++ others) =
      append_assoc block (written_for results) (written_for others)
      ∙ ap (λ t. block ++ t) (sym (ap concat (map-append output_of results others) ∙ concat-append (map output_of results) (map output_of others))) in
      let place : s'.lines + 1 ≡ s.lines + 1 + length results = omega (arith, ap (λ (t : RunSummary R). t.lines) old.counts, (counts_all s results).lines) in
      record {
        lines = record {
          taken = old.lines.taken ++ new.lines.taken;
          results = results ++ others;
          stands_after = Consumes-trans a b c old.lines.taken new.lines.taken old.lines.stands_after new.lines.stands_after;
          whole = whole new.lines.whole;
          answered = subst (λ ls. AreResults options answers ls (results ++ others)) (sym (lines_of-more old.lines.taken new.lines.taken ends))
              (AreResults-append (lines_of old.lines.taken) (lines_of new.lines.taken) results others old.lines.answered new.lines.answered);
        };
        sends = subst (λ t. Sends o q t after) written (Sends-trans o p q (block ++ written_for results) mid after (written_for others) old.sends new.sends);
        counts = new.counts ∙ ap (λ t. counted_all t others) old.counts ∙ sym (counted_all-append s results others);
        room = new.room;
        logs = subst (Logs l n) (sym (refusals_of-append (s.lines + 1) results others))
            (Logs-trans l m n (refusals_of (s.lines + 1) results) (refusals_of (s.lines + 1 + length results) others) old.logs
            (subst (λ k. Logs m n (refusals_of k others)) place new.logs));
      }
    where
      whole : EndsLine new.lines.taken ⊎ IsAllOf new.lines.taken b
          → EndsLine (old.lines.taken ++ new.lines.taken) ⊎ IsAllOf (old.lines.taken ++ new.lines.taken) a
      whole (inl (inl none)) = inl (subst EndsLine (sym (ap (λ l. old.lines.taken ++ l) none ∙ append-nil old.lines.taken)) ends)
      whole (inl (inr lf)) = inl (inr (ends-append old.lines.taken new.lines.taken lf))
      whole (inr all) = inr (all_of-both a b old.lines.taken new.lines.taken old.lines.stands_after all)

  -- ---- a run

  abbrev none : RunSummary R
  none = record { lines = 0; noted = 0; refused = 0; first_refused = None }

  -- lines were answered, and what comes next begins a line
  pub record Run (a b o p : Option (List ℕ)) (l m : Option (List (RefusedLine R))) (block : List ℕ) (s : RunSummary R) : Type 0 where
    pub steps : Steps options answers a b o p l m [] block none s
    pub ends : EndsLine steps.lines.taken

  pub Run-none : (a o : Option (List ℕ)) (log : Option (List (RefusedLine R))) (block : List ℕ) → block ≡ [] → Run a a o o log log block none
  unfolding Steps-none
  Run-none a o log block empty = record {
    steps = Steps-none a o log [] block none empty (record { lines = omega arith; noted = omega arith; refused = omega arith });
    ends = inl refl;
  }

  pub Run-more : {a b c o p q : Option (List ℕ)} {l m n : Option (List (RefusedLine R))} {mid after : List ℕ} {s s' : RunSummary R}
      → Run a b o p l m mid s → FindsLine options answers b c p q m n mid after s s' (Ok Ended) → Run a c o q l n after s'
  unfolding joined
  Run-more {a} {b} {c} {o} {p} {q} {l} {m} {n} {mid} {after} {s} {s'} old f =
      subst (λ left. Run a left o q l n after s') f.ends.1
      (record { steps = joined old.steps old.ends f.steps; ends = inr (ends-append old.steps.lines.taken f.steps.lines.taken f.ends.0) })

  -- a line was counted
  pub more_lines : {b c p q : Option (List ℕ)} {m n : Option (List (RefusedLine R))} {mid after : List ℕ} {s s' : RunSummary R}
      → FindsLine options answers b c p q m n mid after s s' (Ok Ended) → s.lines < s'.lines
  more_lines {s = s} f =
      let results = f.steps.lines.results in
      omega (arith, ap (λ (t : RunSummary R). t.lines) f.steps.counts, (counts_all s results).lines, some f.steps.lines.taken results f.ends.0 f.steps.lines.answered)
    where
      filled : (lines : List (List ℕ)) (line : List ℕ) (more : List (List ℕ)) (results : List (Result Answer (LineFault R))) → lines ≡ line ∷ more
          → AreResults options answers lines results → 0 < length results
      filled [] line more results is h = cc is
      filled (l ∷ ls) line more [] is h = absurd h
      filled (l ∷ ls) line more (r ∷ rs) is h = omega arith

      some : (taken : List ℕ) (results : List (Result Answer (LineFault R))) → EndsWithLf taken → AreResults options answers (lines_of taken) results
          → 0 < length results
      some taken results (front, is) h =
          let first = first_ended front in
          filled (lines_of taken) first.0 first.1 results (ap lines_of is ∙ first.2) h

  stands_after : (found : Result Line (LineFault R)) (taken : List ℕ) (a b c : Option (List ℕ)) → StepEnds options answers taken a b c found
      → StandsAfter options answers b c
  stands_after (Ok Ended) taken a b c e = inl (subst (λ o. Consumes b o []) e.1 (Consumes-nil b))
  stands_after (Ok Last) taken a b c e = inl e.1
  stands_after (Ok Missing) taken a b c e = inl e.1
  stands_after (Err fault) taken a b c e = inr (fault, e)

  -- the end of the input
  pub RunsLines-done : {a b c o p q : Option (List ℕ)} {l m n : Option (List (RefusedLine R))} {mid after : List ℕ} {s s' : RunSummary R}
      {found : Result Line (LineFault R)} → Run a b o p l m mid s → (f : FindsLine options answers b c p q m n mid after s s' found)
      → IsAllOf f.steps.lines.taken b × Consumes f.left c [] → after ≡ [] → RunsLines options answers a c o q l n (Ok s')
  unfolding joined
  RunsLines-done {a} {b} {after = after} {s' = s'} old f end empty =
      let all = joined old.steps old.ends f.steps in
      let rest = all_of-both a b old.steps.lines.taken f.steps.lines.taken old.steps.lines.stands_after end.0 in
      record {
        left = f.left;
        lines = all.lines;
        ends = (summarizes_all all.lines.results s' all.counts, rest, end.1);
        logs = all.logs;
        unsent = after;
        sends = all.sends;
        all_but = empty;
      }

  -- a line at which the run stops
  pub RunsLines-stopped : {a b c o p q : Option (List ℕ)} {l m n : Option (List (RefusedLine R))} {mid after : List ℕ} {s s' : RunSummary R}
      (refused : RefusedLine R) → refused.line ≡ s'.lines + 1 → Run a b o p l m mid s
      → FindsLine options answers b c p q m n mid after s s' (Err refused.fault) → after ≡ []
      → RunsLines options answers a c o q l n (Err (AtLine refused))
  RunsLines-stopped {after = after} refused place old f empty =
      let all = joined old.steps old.ends f.steps in
      record {
        left = f.left;
        lines = all.lines;
        ends = (place ∙ ap (λ k. k + 1) ((summarizes_all all.lines.results _ all.counts).lines), f.ends);
        logs = all.logs;
        unsent = after;
        sends = all.sends;
        all_but = empty;
      }

  -- a block that the writer refused
  pub RunsLines-refused : (answered unsent : ℕ) {a b c o p q : Option (List ℕ)} {l m n : Option (List (RefusedLine R))} {mid after : List ℕ}
      {s s' : RunSummary R} {found : Result Line (LineFault R)} → answered ≡ s'.lines → length after ≡ unsent → 0 < unsent → Run a b o p l m mid s
      → FindsLine options answers b c p q m n mid after s s' found → RunsLines options answers a c o q l n (Err (Write answered unsent))
  RunsLines-refused answered unsent {b = b} {c = c} {after = after} {found = found} count size some old f =
      let all = joined old.steps old.ends f.steps in
      record {
        left = f.left;
        lines = all.lines;
        ends = (count ∙ (summarizes_all all.lines.results _ all.counts).lines, stands_after found f.steps.lines.taken b f.left c f.ends);
        logs = all.logs;
        unsent = after;
        sends = all.sends;
        all_but = (size, some);
      }

  -- how a step ends that stops the run
  pub RunsLines-ended : {a b c o p q : Option (List ℕ)} {l m n : Option (List (RefusedLine R))} {mid : List ℕ} (after : List ℕ) {s : RunSummary R}
      (s' : RunSummary R) (fault : RunFault R) → Run a b o p l m mid s → StepsLine options answers b c p q m n mid after s s' (Err fault)
      → RunsLines options answers a c o q l n (Err fault)
  RunsLines-ended after s' (AtLine refused) old step = RunsLines-stopped refused step.1 old step.0 step.2
  RunsLines-ended after s' (Write answered unsent) old step = RunsLines-refused answered unsent step.2 step.3 step.4 old step.1

-- the fault of a line that was not read
pub line_fault-read : {R : Type 0} (fault : FileFault) → (let made : LineFault R = line_fault_of fault in made ≡ Input files.Read) → fault ≡ files.Read
line_fault-read files.Read e = refl
line_fault-read files.TooLong e = cc e
line_fault-read files.Memory e = cc e
line_fault-read (files.BadDigit at) e = cc e
line_fault-read files.OddDigits e = cc e
line_fault-read (files.BadCharacter at) e = cc e
line_fault-read (files.BehindPadding at) e = cc e
line_fault-read files.BadBase64Length e = cc e
line_fault-read files.TrailingBits e = cc e

pub line_fault-counted : {R : Type 0} (fault : FileFault) → (let made : LineFault R = line_fault_of fault in made ≢ TooManyLines)
line_fault-counted files.Read e = cc e
line_fault-counted files.TooLong e = cc e
line_fault-counted files.Memory e = cc e
line_fault-counted (files.BadDigit at) e = cc e
line_fault-counted files.OddDigits e = cc e
line_fault-counted (files.BadCharacter at) e = cc e
line_fault-counted (files.BehindPadding at) e = cc e
line_fault-counted files.BadBase64Length e = cc e
line_fault-counted files.TrailingBits e = cc e

-- a line at which a run stops is one line
pub same_fault : {R T : Type 0} (a b : RefusedLine R) → (let stop : Result T (RunFault R) = Err (AtLine a) in stop ≡ Err (AtLine b)) → a.fault ≡ b.fault
same_fault {R} a b e =
    let same : a ≡ b = cc e in
    ap (λ (l : RefusedLine R). l.fault) same

pub same_number : {R T : Type 0} (a b : RefusedLine R) → (let stop : Result T (RunFault R) = Err (AtLine a) in stop ≡ Err (AtLine b)) → a.line ≡ b.line
same_number {R} a b e =
    let same : a ≡ b = cc e in
    ap (λ (l : RefusedLine R). l.line) same
