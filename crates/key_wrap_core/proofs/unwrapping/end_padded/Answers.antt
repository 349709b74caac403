-- The key belongs to the text if the initial value found and the registers hold one.
use Rattle.std.proofs.Common.{rules, ℕ, List, ◌%◌, ◌^◌, refl}
use Rattle.key_wrap_core.proofs.Refusals.{passed_on}
use Rattle.key_wrap_core.proofs.InPlaceForm.{held_rest, held_size}
use Rattle.key_wrap_core.proofs.Unwrappings.{padded_found, padded_none, text_size}
use Rattle.key_wrap_core.proofs.unwrapping.end_padded.Goals as goal

pub returns : goal.returns
returns c =
    let found : ℕ = c.args.found in
    let d = c.in_ok-decide.ensures in
    let held = c.padded_difference.ensures.passes (d.passes.0 refl) in
    rw (d.kept, c.given_length.ensures) (record {
      ends = record {
        answer = λ E D text inv run.
            padded_found {len = found % 2 ^ 32} found c.args.registers.now text inv (rw (text_size found c.args.registers.now text inv run) c.requires) run held;
        only_fault = tt;
        cleared = λ e. cc;
      };
      key = record {
        size = held_size found (found % 2 ^ 32) c.args.registers.now held;
        around = held_rest found (found % 2 ^ 32) c.args.registers.now (search rules) held;
      };
    })

pub returns-in_err-decide : goal.returns-in_err-decide
returns-in_err-decide c =
    let found : ℕ = c.args.found in
    let registers : List ℕ = c.args.registers.now in
    let d = c.in_err-decide.ensures in
    let none = c.padded_difference.ensures.refuses (λ e. absurd (let ok = d.passes.1 e in cc)) in
    rw (passed_on c.from_residual.result c.in_err-decide.field-0.0 c.from_residual.ensures, d.only_fault) (record {
      ends = record {
        answer = λ E D text inv run. padded_none found registers _ text inv (rw (text_size found registers text inv run) c.requires) run none;
        only_fault = refl;
        cleared = λ e. d.cleared refl;
      };
      key = tt;
    })
