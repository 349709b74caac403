-- Each file that cannot be opened is a refusal; after that the run ends as its output is committed.
use Rattle.std.proofs.Common.{refl}
use Rattle.std.proofs.lemmas.Result.{err_from_is_err_and}
use Rattle.keywrap.proofs.Committed.{commits_ends, commits_keeps, input_refused, kek_refused, new_kek_refused, output_refused}
use Rattle.keywrap.proofs.session.Session.open_and_run.Goals as goal

pub returns-in_err-kek-clause-ends : goal.returns-in_err-kek-clause-ends
returns-in_err-kek-clause-ends g c =
    let p = err_from_is_err_and c.from_residual.result c.from_residual.ensures.1 in
    rw (p.1, p.2) (kek_refused _ c.in_err-kek.ensures)

pub returns-in_err-new_kek-clause-ends : goal.returns-in_err-new_kek-clause-ends
returns-in_err-new_kek-clause-ends g c =
    let p = err_from_is_err_and c.from_residual-in_err-new_kek.result c.from_residual-in_err-new_kek.ensures.1 in
    rw (p.1, p.2) (new_kek_refused _ _ c.in_ok-kek.ensures c.in_err-new_kek.ensures)

pub returns-in_err-input-clause-ends : goal.returns-in_err-input-clause-ends
returns-in_err-input-clause-ends g c =
    let p = err_from_is_err_and c.from_residual-in_err-input.result c.from_residual-in_err-input.ensures.1 in
    rw (p.1, p.2) (input_refused _ _ (record { notation = refl; kek = c.in_ok-kek.ensures; new_kek = c.in_ok-new_kek.ensures }) c.in_err-input.ensures)

pub returns-in_err-output-clause-ends : goal.returns-in_err-output-clause-ends
returns-in_err-output-clause-ends g c =
    let p = err_from_is_err_and c.from_residual-in_err-output.result c.from_residual-in_err-output.ensures.1 in
    rw (p.1, p.2) (output_refused _ _ _ (record {
      are_keks = record { notation = refl; kek = c.in_ok-kek.ensures; new_kek = c.in_ok-new_kek.ensures };
      reads = c.in_ok-input.ensures;
    }) c.in_err-output.ensures.begins)

pub returns-clause-ends : goal.returns-clause-ends
returns-clause-ends g c =
    commits_ends (g.D.Disk.reads c.args.disk.now) (g.D.Disk.holds c.args.disk.now) (g.D.Disk.holds c.open_output.new.disk)
    (g.D.Disk.holds c.operate_and_commit.new.disk) (g.D.Disk.cannot_read c.args.disk.now) (g.D.Disk.cannot_create c.args.disk.now)
    (g.D.Disk.cannot_occupy c.args.disk.now) c.args.self.now.run.now c.args.self.now.streams.output _ _ _
    (record {
      are_keks = record { notation = refl; kek = c.in_ok-kek.ensures; new_kek = c.in_ok-new_kek.ensures };
      reads = c.in_ok-input.ensures;
    })
    c.in_ok-output.ensures.begins c.in_ok-output.ensures.kept (λ refused. refused.fault) c.operate_and_commit.result
    c.operate_and_commit.ensures.ends

pub returns-clause-kept : goal.returns-clause-kept
returns-clause-kept g c =
    commits_keeps (g.D.Disk.reads c.args.disk.now) (g.D.Disk.holds c.args.disk.now) (g.D.Disk.holds c.open_output.new.disk)
    (g.D.Disk.holds c.operate_and_commit.new.disk) (g.D.Disk.cannot_read c.args.disk.now) (g.D.Disk.cannot_create c.args.disk.now)
    (g.D.Disk.cannot_occupy c.args.disk.now) c.args.self.now.run.now c.args.self.now.streams.output _ _ _
    (record {
      are_keks = record { notation = refl; kek = c.in_ok-kek.ensures; new_kek = c.in_ok-new_kek.ensures };
      reads = c.in_ok-input.ensures;
    })
    c.in_ok-output.ensures.begins c.in_ok-output.ensures.kept (λ refused. refused.fault) c.operate_and_commit.result
    c.operate_and_commit.ensures.ends
