-- What the conversion makes of the bytes, in the notation of the job.
use Rattle.keywrap_cli.proofs.Common.{◌≡◌, ℕ, List, Err, rules, subst, IsMade, last_kek}
use Rattle.keywrap_cli.proofs.Answered.{converted, converted_fault}
use Rattle.keywrap_cli.proofs.key_job.KeyJob.convert.Goals as goal

pub returns-in_err-convert_into : goal.returns-in_err-convert_into
returns-in_err-convert_into g c =
    let E = g.B.BlockPair.encrypted c.args.self.now.pair in
    let F = g.B.BlockPair.encrypted (last_kek c.args.self.now.pair c.args.self.now.new_pair) in
    let fault = c.in_err-convert_into.field-0.0 in
    let is : c.from_residual.result ≡ Err fault = search rules in
    let output = c.convert_into.new.output.items in
    let made : IsMade c.args.conversion.now E c.deref.result.now output (Err fault) = c.in_err-convert_into.ensures in
    rw is (converted_fault c.args.conversion.now c.args.self.now.notation E F c.args.bytes.now.items output output fault
    (subst (λ (X : List ℕ). IsMade c.args.conversion.now E X output (Err fault)) c.deref.ensures.value made))

pub returns : goal.returns
returns g c =
    let E = g.B.BlockPair.encrypted c.args.self.now.pair in
    let F = g.B.BlockPair.encrypted (last_kek c.args.self.now.pair c.args.self.now.new_pair) in
    let made = rw c.deref.ensures.value at c.in_ok-convert_into.ensures in
    converted c.args.conversion.now c.args.self.now.notation E F c.args.bytes.now.items c.convert_into.new.output.items c.print.new.output.items
    c.print.result made c.print.ensures
