use Rattle.std.proofs.Common.{◌≡◌, ◌+◌, ◌∙◌, sym, length}
use Rattle.std.proofs.lemmas.Result.{IfOk-weaker}
use Rattle.occ_nform_table.specs.Judging.{row_marks}
use Rattle.occ_nform_table.specs.Normal.{first_mark}
use Rattle.occ_nform_read.proofs.Rows.{row_stop, row_stop_later, row_last, offer_marks}
use Rattle.occ_nform_read.proofs.lines.lines_fault.Goals as goal

pub returns-then-is_some : goal.returns-then-is_some
returns-then-is_some c = row_stop c.args.params.now c.args.row.now c.args.line c.items-ends.result.now c.in_ok-fault.fault c.items-ends.ensures (sym c.if-is_some.ensures) c.in_ok-fault.ensures

pub returns-then-is_some-2 : goal.returns-then-is_some-2
returns-then-is_some-2 c =
    row_stop_later c.args.params.now c.args.row.now c.args.line c.items-ends.result.now c.items-accepts.result.now c.items-offers.result.now c.in_ok-fault.fault c.in_ok-fault-2.fault c.items-ends.ensures c.items-accepts.ensures c.items-offers.ensures
    (sym c.if-is_some.ensures) c.in_ok-fault.ensures (sym c.if-is_some-2.ensures) c.in_ok-fault-2.ensures

pub returns : goal.returns
returns c =
    IfOk-weaker c.offers_fault.result (λ f. f ≡ first_mark (c.args.line + length c.items-ends.result.now + length c.items-accepts.result.now) (offer_marks c.args.params.now c.items-offers.result.now)) (λ f. f ≡ first_mark c.args.line (row_marks c.args.params.now c.args.row.now))
    (λ f k. k ∙ row_last c.args.params.now c.args.row.now c.args.line c.items-ends.result.now c.items-accepts.result.now c.items-offers.result.now c.in_ok-fault.fault c.in_ok-fault-2.fault c.items-ends.ensures c.items-accepts.ensures c.items-offers.ensures
    (sym c.if-is_some.ensures) c.in_ok-fault.ensures (sym c.if-is_some-2.ensures) c.in_ok-fault-2.ensures)
    c.offers_fault.ensures
