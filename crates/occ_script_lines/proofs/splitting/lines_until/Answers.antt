use Rattle.std.proofs.Common.{ap, sym, length, drop, ◌≡◌, ◌∙◌, arith}
use Rattle.std.proofs.lemmas.List.{take_rest}
use Rattle.occ_lex.specs.Rows.{first_row}
use Rattle.occ_lex.proofs.RowLemmas.{row_fits}
use Rattle.occ_script_lines.proofs.Divided.{counted_all, counted_more, counted_none, counted_stop}
use Rattle.occ_script_lines.proofs.splitting.lines_until.Goals as goal

pub loop-at-init : goal.loop-at-init
loop-at-init c = counted_none c.args.format c.args.text.now

pub returns-then-is_keyword-clause-body : goal.returns-then-is_keyword-clause-body
returns-then-is_keyword-clause-body c =
    let is : c.first_row-row.result.now ≡ first_row (drop c.loop-at.at c.args.text.now) = c.first_row-row.ensures ∙ ap first_row (take_rest c.args.text.now c.loop-at.at) in
    counted_stop c.args.format c.args.text.now c.first_row-row.result.now c.loop-at.at c.loop-at.count (omega arith) is (sym c.is_keyword.ensures ∙ c.if-is_keyword.true) c.loop-at.invariant

pub loop-at-smaller : goal.loop-at-smaller
loop-at-smaller c =
    let is : c.first_row-row.result.now ≡ first_row (drop c.loop-at.at c.args.text.now) = c.first_row-row.ensures ∙ ap first_row (take_rest c.args.text.now c.loop-at.at) in
    omega (arith, row_fits c.args.text.now c.first_row-row.result.now c.loop-at.at (omega arith) is)

pub loop-at-preserved : goal.loop-at-preserved
loop-at-preserved c =
    let is : c.first_row-row.result.now ≡ first_row (drop c.loop-at.at c.args.text.now) = c.first_row-row.ensures ∙ ap first_row (take_rest c.args.text.now c.loop-at.at) in
    counted_more c.args.format c.args.text.now c.first_row-row.result.now c.loop-at.at c.loop-at.count (omega arith) is (sym c.is_keyword.ensures ∙ c.if-is_keyword.false)
    (row_fits c.args.text.now c.first_row-row.result.now c.loop-at.at (omega arith) is) c.loop-at.invariant

pub returns-clause-body : goal.returns-clause-body
returns-clause-body c = counted_all c.args.format c.args.text.now c.loop-at.at c.loop-at.count (omega arith) c.loop-at.invariant
