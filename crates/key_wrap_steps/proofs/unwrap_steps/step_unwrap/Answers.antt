-- The number counts down before the step is undone.
use Rattle.std.proofs.Common.{rules, ◌≡◌, ◌+◌, ◌-◌, arith}
use Rattle.key_wrap_core.proofs.Spelling.{each_byte}
use Rattle.key_wrap_steps.proofs.unwrap_steps.step_unwrap.Goals as goal

pub returns-clause-steps : goal.returns-clause-steps
returns-clause-steps c =
    let again : c.args.left.now - 1 + 1 ≡ c.args.left.now = omega arith in
    λ E text before state decrypted. c.unstep_registers.ensures E text before (rw again state) decrypted

pub unstep_registers-requires-clause-block : goal.unstep_registers-requires-clause-block
unstep_registers-requires-clause-block c = record { sixteen = search rules; bytes = each_byte c.args.block.now (search rules) }
