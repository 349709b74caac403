-- The registers hold a key in one of the forms, or are wrapped again.
use Rattle.std.proofs.Common.{refl}
use Rattle.std.proofs.lemmas.Bool.{false≢true}
use Rattle.key_wrap_core.proofs.PaddedForm.{padded_registers_forward}
use Rattle.key_wrap_core.proofs.FoundForms.{wrapping_found, behind_first}
use Rattle.key_wrap_core.proofs.rewrapping.find.Goals as goal

pub returns-in_default-clause-refused : goal.returns-in_default-clause-refused
returns-in_default-clause-refused g c =
    let none = (rw (behind_first c.unwrap_buffer-found.new.buf) at c.old_difference-difference.ensures).refuses
    (λ zero. false≢true (c.in_default.ensures.passes.1 zero)) in (
      (
        c.rewrap_length_ok.ensures.0 c.if-not-rewrap_length_ok.false,
        λ form from key h. none form from key (wrapping_found form key _ c.args.buf.now (g.met.B.BlockPair.lawful c.args.meter.now.pair) c.unwrap_buffer-found.ensures.found h),
      ),
      λ e. cc,
    )

pub returns-in_default-clause-kept : goal.returns-in_default-clause-kept
returns-in_default-clause-kept g c = λ _.
    padded_registers_forward (rw c.unwrap_buffer-found.ensures.calls at (c.in_default.ensures.restored refl)) c.unwrap_buffer-found.ensures.found
