use Rattle.std.proofs.Common.{◌∙◌, ◌+◌, ap, sym, length, arith}
use Rattle.occ_nform_table.specs.Judging.{height_over}
use Rattle.occ_nform_read.specs.Marks.{seen}
use Rattle.occ_nform_read.proofs.Rows.{walked_start, walked_on, walked_stops, walked_end, faces_at}
use Rattle.occ_nform_read.proofs.whole.rows_fault.Goals as goal

pub loop-row-init : goal.loop-row-init
loop-row-init c = walked_start c.args.names.now c.args.params.now c.args.rows.now c.new-heights.result.items c.new-heights.ensures.items c.requires.rows c.requires.lines

pub row_text-requires : goal.row_text-requires
row_text-requires c = let w = faces_at c.args.names.now c.args.params.now c.args.rows.now c.loop-row.row-index c.loop-row.line c.loop-row.heights.items (seen c.loop-row.before) c.row-item.result c.requires.interface (omega arith) c.row-item.is c.loop-row.invariant in w.named

pub row_fault-requires-clause-fits : goal.row_fault-requires-clause-fits
row_fault-requires-clause-fits c = let w = faces_at c.args.names.now c.args.params.now c.args.rows.now c.loop-row.row-index c.loop-row.line c.loop-row.heights.items (seen c.loop-row.before) c.row-item.result c.requires.interface (omega arith) c.row-item.is c.loop-row.invariant in w.fits

pub returns-then-is_some : goal.returns-then-is_some
returns-then-is_some c =
    walked_stops c.args.names.now c.args.params.now c.args.rows.now c.loop-row.row-index c.loop-row.line c.loop-row.heights.items (seen c.loop-row.before) c.row-item.result c.height_over-height.result c.in_ok-text.text.items c.in_ok-fault.fault (omega arith) c.row-item.is c.loop-row.invariant
    (c.height_over-height.ensures.value ∙ ap (λ hs. height_over hs c.items.result.now) c.as_slice.ensures.value ∙ ap (height_over c.loop-row.heights.items) c.items.ensures) c.in_ok-text.ensures (sym c.if-is_some.ensures) c.in_ok-fault.ensures

pub lines_of-line-requires : goal.lines_of-line-requires
lines_of-line-requires c = let w = faces_at c.args.names.now c.args.params.now c.args.rows.now c.loop-row.row-index c.loop-row.line c.loop-row.heights.items (seen c.loop-row.before) c.row-item.result c.requires.interface (omega arith) c.row-item.is c.loop-row.invariant in omega (arith, w.fits)

pub overflow_add-line-in-loop-row : goal.overflow_add-line-in-loop-row
overflow_add-line-in-loop-row c = let w = faces_at c.args.names.now c.args.params.now c.args.rows.now c.loop-row.row-index c.loop-row.line c.loop-row.heights.items
    (seen c.loop-row.before) c.row-item.result c.requires.interface (omega arith) c.row-item.is c.loop-row.invariant in omega (arith, w.fits, c.lines_of-line.ensures)

pub loop-row-preserved : goal.loop-row-preserved
loop-row-preserved c =
    walked_on c.args.names.now c.args.params.now c.args.rows.now c.loop-row.row-index c.loop-row.line c.loop-row.heights.items (seen c.loop-row.before) c.row-item.result
    c.height_over-height.result c.in_ok-text.text.items (c.loop-row.line + c.lines_of-line.result) c.push.new.self.items c.in_ok-fault.fault (omega arith) c.row-item.is c.loop-row.invariant
    (c.height_over-height.ensures.value ∙ ap (λ hs. height_over hs c.items.result.now) c.as_slice.ensures.value ∙ ap (height_over c.loop-row.heights.items) c.items.ensures) c.in_ok-text.ensures
    (omega (arith, c.height_over-height.ensures.low, ap length c.as_slice.ensures.value)) (sym c.if-is_some.ensures) c.in_ok-fault.ensures (ap (λ m. c.loop-row.line + m) c.lines_of-line.ensures) c.in_ok-push.ensures.items

pub returns : goal.returns
returns c = walked_end c.args.names.now c.args.params.now c.args.rows.now c.loop-row.row-index c.loop-row.line c.loop-row.heights.items (seen c.loop-row.before) (omega arith) c.loop-row.invariant
