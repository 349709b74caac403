-- The law of the definitions, at each return.
use Rattle.key_files.proofs.ReadBack.{prints_hex}
use Rattle.key_files.proofs.write.print_hex.Goals as goal

pub returns-in_err-resize-clause-prints : goal.returns-in_err-resize-clause-prints
returns-in_err-resize-clause-prints c = prints_hex c.args.bytes.now (λ k. (c.type_inv.bytes k).fits)

pub returns-in_err-push-clause-prints : goal.returns-in_err-push-clause-prints
returns-in_err-push-clause-prints c = prints_hex c.args.bytes.now (λ k. (c.type_inv.bytes k).fits)

pub returns-clause-prints : goal.returns-clause-prints
returns-clause-prints c = prints_hex c.args.bytes.now (λ k. (c.type_inv.bytes k).fits)
