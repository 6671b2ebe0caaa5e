use Rattle.std.proofs.Common.{◌≡◌, ◌∙◌, sym, length, arith}
use Rattle.std.proofs.lemmas.Result.{IfOk-weaker}
use Rattle.occ_nform_table.specs.Judging.{is_reached}
use Rattle.occ_nform_table.specs.Normal.{Parts, first_unreached, table_fault}
use Rattle.occ_nform_read.proofs.Names.{rows_below}
use Rattle.occ_nform_read.proofs.Rows.{rows_few, table_lines, table_empty, table_reached}
use Rattle.occ_nform_read.proofs.whole.judge.Goals as goal

pub returns-then-is_some : goal.returns-then-is_some
returns-then-is_some c = let t : Parts = record { names = c.args.names.now; params = c.args.params.now; rows = c.args.rows.now; states = c.args.states.now } in table_lines t c.in_ok-fault.fault (sym c.if-is_some.ensures) c.in_ok-fault.ensures

pub empty_fault-fault-requires : goal.empty_fault-fault-requires
empty_fault-fault-requires c = rows_few c.args.names.now c.args.params.now c.args.rows.now c.requires.lines

pub returns-then-is_some-2 : goal.returns-then-is_some-2
returns-then-is_some-2 c = let t : Parts = record { names = c.args.names.now; params = c.args.params.now; rows = c.args.rows.now; states = c.args.states.now } in
    table_empty t c.in_ok-fault.fault c.empty_fault-fault.result (sym c.if-is_some.ensures) c.in_ok-fault.ensures (sym c.if-is_some-2.ensures) c.empty_fault-fault.ensures

pub reach_fault-requires-clause-offers : goal.reach_fault-requires-clause-offers
reach_fault-requires-clause-offers c = rows_below c.args.params.now 0 (length c.args.rows.now) c.args.rows.now (omega arith) c.requires.rows

pub reach_fault-requires-clause-few : goal.reach_fault-requires-clause-few
reach_fault-requires-clause-few c = rows_few c.args.names.now c.args.params.now c.args.rows.now c.requires.lines

pub returns : goal.returns
returns c = let t : Parts = record { names = c.args.names.now; params = c.args.params.now; rows = c.args.rows.now; states = c.args.states.now } in
    IfOk-weaker c.reach_fault.result (λ f. f ≡ first_unreached (is_reached c.args.rows.now c.args.states.now) (length c.args.rows.now) 0) (λ f. f ≡ table_fault t)
    (λ f k. k ∙ table_reached t c.in_ok-fault.fault c.empty_fault-fault.result (sym c.if-is_some.ensures) c.in_ok-fault.ensures (sym c.if-is_some-2.ensures) c.empty_fault-fault.ensures)
    c.reach_fault.ensures
