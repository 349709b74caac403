-- The words that the proofs share, of std, of the crates below and of this crate.
pub use Rattle.std.proofs.Common.{[], ◌%◌, ◌&&◌, ◌*◌, ◌++◌, ◌+◌, ◌-◌, ◌<◌, ◌==◌, ◌^◌, ◌||◌, ◌↔◌, ◌∙◌, ◌∷◌, ◌≡◌, ◌≤◌, Bool, Err, IfErr, IsErrAnd, IsOk, IsTrue, List, None, Ok, OnOk, Option, Result, Some, Vec, ap, append_assoc, arith, codes, cond, drop, false, get_or, inl, inr, length, length-append, map, not, position, refl, rules, string_bytes, subst, sym, take, true, ℕ}
pub use Rattle.std.proofs.KnownBytes.{Appends-kept, Keeps-refl}
pub use Rattle.std.proofs.lemmas.Bool.Decides.{nat_tests}
pub use Rattle.std.proofs.lemmas.List.{map-append, take_at, take_more}
pub use Rattle.std.proofs.lemmas.Result.{IfErr-weaker, IfOk-weaker, on_ok_weaker}
pub use Rattle.std.specs.Io.KnownBytes.{Appends}
pub use Rattle.std.specs.List.{AllByRecursion, AllPass, list_all}
pub use Rattle.std.specs.Prelude.{IfSome, IsOkAnd, IsOkUnless}
pub use Rattle.std.specs.declared.alloc.Global.{Global}
pub use Rattle.fips197.specs.Cipher.{cipher, cipher_by}
pub use Rattle.fips197.specs.KeyExpansion.{key_expansion}
pub use Rattle.key_files.specs.HexText.{digits_of, hex_line, is_skipped}
pub use Rattle.key_files.specs.Writing.{IsLine, WritesHex}
pub use Rattle.key_files.specs.declared.fault.FileFault.{FileFault}
pub use Rattle.key_lines.specs.LineAnswers.{Answer, AreLines, IsAnswered, made, note_count, notes_of, output_of, refusals_of}
pub use Rattle.key_lines.specs.declared.fault.LineFault.{LineFault}
pub use Rattle.key_lines.specs.declared.job.Note.{Note}
pub use Rattle.key_wrap_core.specs.Forms.{IsTextLengthAs, IsWrapping, IsWrappingWithIv, NoOtherForm, by_default, with_value}
pub use Rattle.key_wrap_core.specs.InPlace.{ArePaddedLengths, ArePlainLengths, KeyAnswer}
pub use Rattle.key_wrap_core.specs.Kind.{IsKindWith}
pub use Rattle.key_wrap_core.specs.Lengths.{IsPaddedTextLength}
pub use Rattle.key_wrap_core.specs.Plain.{IsReserved, Plain}
pub use Rattle.key_wrap_core.specs.declared.agreed_form.AgreedForm.{AgreedForm}
pub use Rattle.key_wrap_core.specs.declared.forms.Form.{Form}
pub use Rattle.key_wrap_core.specs.declared.forms.Kind.{Kind}
pub use Rattle.key_wrap_core.specs.declared.faults.Refusal.{Refusal}
pub use Rattle.test_vectors.specs.Vectors.{TestVector, shown}
pub use Rattle.keywrap_cli.specs.JobAnswers.{IsInputLength, IsKeyOf, Answers, AnswersTo, IsMade, IsPrinted, Makes, MakesConversion, MayLack, WritesFor, done_of, kind_line, kind_note}
pub use Rattle.keywrap_cli.specs.ToyAndVectors.{DrillAnswer, TextAnswer, drill_meaning, text_fault_of}
pub use Rattle.keywrap_cli.specs.Faults.{hex_fault_of}
pub use Rattle.keywrap_cli.specs.Files.{IsOneLine, line_notation, printed}
pub use Rattle.keywrap_cli.specs.JobReading.{AreCiphers, OpensKek, OpensKeks, ReadsFile, ReadsInput, UnderKek, UnderKeks, UnderNewKek, kek_fault_of, last_kek, one_kek, two_keks}
pub use Rattle.keywrap_cli.specs.Operation.{RunsOperation, RunsOperationLines, RunsUnder, TellsSameKek, WritesTheAnswer, WritesTheLines, AnswersEachLine, AnswersLines, IsRefusedBefore, RunsInput, WritesAnswer, WritesFrom, WritesOutput, job_fault_of}
pub use Rattle.keywrap_cli.specs.VectorReport.{Differs, Gave, IsMissed, IsReport, IsReproduced, IsRight, IsVerdict, IsVerdictOnAll, LibraryGives, Line, Takes, line_text, verdict}
pub use Rattle.keywrap_cli.specs.declared.job.Direction.{Direction}
pub use Rattle.keywrap_cli.specs.declared.files.Notation.{Notation}
pub use Rattle.keywrap_cli.specs.declared.kek_file.Ciphers.{Ciphers}
pub use Rattle.keywrap_cli.specs.declared.kek_file.Keks.{Keks}
pub use Rattle.keywrap_cli.specs.declared.outcome.Done.{Done}
pub use Rattle.keywrap_cli.specs.declared.outcome.JobFault.{JobFault}
pub use Rattle.keywrap_cli.specs.declared.what.What.{What}
pub use Rattle.keywrap_cli.specs.declared.what.Conversion.{Conversion}
