use Rattle.std.proofs.Common.{◌≡◌, ◌+◌, ◌∷◌, ◌∙◌}
use Rattle.std.proofs.lemmas.Result.{IfOk-weaker}
use Rattle.occ_nform_table.specs.Judging.{comes_after, placed, row_marks}
use Rattle.occ_nform_table.specs.Normal.{first_mark}
use Rattle.occ_nform_read.specs.Marks.{seen}
use Rattle.occ_nform_read.proofs.Rows.{line_stop, line_goes}
use Rattle.occ_nform_read.proofs.lines.row_fault.Goals as goal

pub returns-then-not-comes_after : goal.returns-then-not-comes_after
returns-then-not-comes_after c = line_stop c.args.line _ _ c.if-not-comes_after.ensures

pub returns : goal.returns
returns c =
    IfOk-weaker c.lines_fault.result (λ f. f ≡ first_mark (c.args.line + 1) (row_marks c.args.params.now c.args.row.now))
    (λ f. f ≡ first_mark c.args.line (placed (comes_after (seen c.args.before.now) (c.args.here.now.height, c.args.here.now.text.items)) ∷ row_marks c.args.params.now c.args.row.now))
    (λ f k. k ∙ line_goes c.args.line (comes_after (seen c.args.before.now) (c.args.here.now.height, c.args.here.now.text.items)) (row_marks c.args.params.now c.args.row.now) c.if-not-comes_after.ensures)
    c.lines_fault.ensures
