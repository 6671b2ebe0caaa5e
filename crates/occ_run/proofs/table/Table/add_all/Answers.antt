use Rattle.std.proofs.Common.{◌≤◌, length, sym, arith}
use Rattle.std.proofs.lemmas.List.{append-nil}
use Rattle.occ_run.proofs.Tables.{rows_all, rows_more}
use Rattle.occ_run.proofs.table.Table.add_all.Goals as goal

pub loop-run-init : goal.loop-run-init
loop-run-init c = λ n. sym (append-nil _)

pub loop-run-preserved : goal.loop-run-preserved
loop-run-preserved c = λ n. rows_more c.args.runs.now c.loop-run.run-index _ n _ _ _ c.loop-run-test.true (c.loop-run.invariant n) (c.in_ok-add.ensures n)

pub returns : goal.returns
returns c = λ n.
    let all : length c.args.runs.now ≤ c.loop-run.run-index = omega (arith, c.loop-run-test.false) in
    rows_all c.args.runs.now c.loop-run.run-index n _ _ all (c.loop-run.invariant n)
