-- The words that the proofs share, of std, of the crates below and of this crate.
pub use Rattle.std.proofs.Common.{All, Bool, Err, IfSome, List, None, Ok, Option, Result, Some, [], ap, append-nil, append_assoc, arith, cond, drop, false, inl, inr, length, length-append, map, min, ne_eqb, not, refl, reverse, slice_index, subst, sym, take, take-append-drop, true, vec_len, ℕ, ◌++◌, ◌+◌, ◌-◌, ◌<◌, ◌==◌, ◌∙◌, ◌∷◌, ◌≡◌, ◌≢◌, ◌≤◌}
pub use Rattle.std.proofs.KnownBytes.{Appends-nil, Appends-trans, Consumes-kept, Consumes-nil, Consumes-trans}
pub use Rattle.std.proofs.lemmas.Bool.Decides.{nat_tests}
pub use Rattle.std.proofs.lemmas.List.{length-drop, length-reverse, length-take, length-take-le, map-append, reverse-append, reverse-reverse, take-take, take_all, take_at}
pub use Rattle.std.proofs.lemmas.List.Elements.{All-append, All-head, All-tail, filter-append}
pub use Rattle.std.specs.Io.KnownBytes.{Appends, Consumes, Keeps}
pub use Rattle.std.specs.List.{concat, filter, list_all, prefix_len, suffix_len}
pub use Rattle.std.specs.Prelude.{IfErr, OnOk, ◌⊎◌}
pub use Rattle.key_files.specs.Decoding.{DecodesText, fault_behind}
pub use Rattle.key_files.specs.declared.fault.FileFault.{FileFault}
pub use Rattle.key_lines.specs.Block.{MayReadOn, Sends}
pub use Rattle.key_lines.specs.LineAnswers.{Answer, AreLines, AreOneEach, IsAnswered, Logs, answered, line_fault_of, notes_of, output_of, refusal_of, refusals_of}
unfoldable pub use Rattle.key_lines.specs.LineMeaning.{blank_ended_meaning}
pub use Rattle.key_lines.specs.LineMeaning.{LinesAreFiles, PrintsBack, is_blank, line_limit, line_meaning, meaning_behind, text_meaning, text_of}
pub use Rattle.key_lines.specs.LineReading.{HasNoLf, IsAllOf, MovesPart, ReadsLine, TakesLine, TakesPart}
unfoldable pub use Rattle.key_lines.specs.Lines.{lines_of}
pub use Rattle.key_lines.specs.Lines.{EndsLine, EndsWithLf, before_first}
pub use Rattle.key_lines.specs.Running.{AreResults, Counts, FindsLine, LineAnswer, LineResult, MakesAnswer, MakesOutput, RunsLines, StandsAfter, StepEnds, Steps, StepsLine, StopsFor, WritesAnswers, is_own, written_for}
pub use Rattle.key_lines.specs.Summary.{CanAddLine, Summarizes, counted, counted_all, first_of, first_or}
pub use Rattle.key_lines.specs.declared.fault.LineFault.{LineFault}
pub use Rattle.key_lines.specs.declared.fault.RefusedLine.{RefusedLine}
pub use Rattle.key_lines.specs.declared.fault.RunFault.{RunFault}
pub use Rattle.key_lines.specs.declared.job.Note.{Note}
pub use Rattle.key_lines.specs.declared.line.Line.{Line}
pub use Rattle.key_lines.specs.declared.run.RunOptions.{RunOptions}
pub use Rattle.key_lines.specs.declared.summary.RunSummary.{RunSummary}
pub use Rattle.key_lines.specs.declared.text.TextNotation.{TextNotation}
