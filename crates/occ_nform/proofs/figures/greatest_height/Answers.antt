use Rattle.std.proofs.Common.{◌≤◌, ◌+◌, ◌∙◌, List, ℕ, ap, length, subst, sym}
use Rattle.occ_nform_rows.specs.occ_nform_table.Judging.{height_over}
use Rattle.occ_nform_rows.specs.occ_nform_table.declared.table.TableRow.{TableRow}
use Rattle.occ_nform.proofs.Counting.{AreHeights, heights_end, heights_step}
use Rattle.occ_nform.proofs.figures.greatest_height.Goals as goal

pub loop-row-preserved : goal.loop-row-preserved
loop-row-preserved c =
    let hs = c.loop-row.heights.items in
    let own = c.height_over-own.result in
    subst (λ (l : List ℕ). AreHeights c.args.rows.now l (c.loop-row.row-index + 1) c.max-height.result) (sym c.in_ok-push.ensures.items)
    (heights_step c.args.rows.now hs c.loop-row.row-index c.loop-row.height own c.max-height.result c.row-item.result c.loop-row-test.true c.loop-row.invariant
    (c.height_over-own.ensures.height ∙ (λ i. height_over (c.as_slice.ensures.value i) (c.items.ensures i)) ∙ ap (λ (r : TableRow). height_over hs r.offers) c.row-item.is)
    (subst (λ (l : List ℕ). own ≤ 1 + length l) c.as_slice.ensures.value c.height_over-own.ensures.most)
    c.max-height.ensures)

pub returns : goal.returns
returns c = heights_end c.args.rows.now c.loop-row.heights.items c.loop-row.row-index c.loop-row.height c.loop-row-test.false c.loop-row.invariant
