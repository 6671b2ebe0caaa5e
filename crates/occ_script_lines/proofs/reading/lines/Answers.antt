use Rattle.std.proofs.Common.{◌≡◌, ◌+◌, ap, length, drop, ◌∙◌, arith}
use Rattle.std.proofs.lemmas.List.{take_rest}
use Rattle.occ_lex.specs.Rows.{first_row, read_rows, rows}
use Rattle.occ_lex.proofs.RowLemmas.{with_lines, read_turn, read_fault, read_end, row_fits}
use Rattle.occ_script_lines.specs.Sections.{reading_in, section}
use Rattle.occ_script_lines.proofs.Divided.{lines_start}
use Rattle.occ_script_lines.proofs.reading.lines.Goals as goal

pub loop-at-init : goal.loop-at-init
loop-at-init c = record {
  within = omega arith;
  counted = omega arith;
  so_far = ap (λ lines. with_lines lines (read_rows (c.args.section.now.number + 1) c.args.section.now.end (rows (drop c.args.section.now.end c.args.section.now.upto.now)))) c.new-lines.ensures.items
      ∙ lines_start c.args.section.now (omega arith);
}

pub judged_line-requires : goal.judged_line-requires
judged_line-requires c =
    let text = c.args.section.now.upto.now in
    let is : c.first_row-row.result.now ≡ first_row (drop c.loop-at.at text) = c.first_row-row.ensures ∙ ap first_row (take_rest text c.loop-at.at) in
    omega (arith, row_fits text c.first_row-row.result.now c.loop-at.at (omega arith) is)

pub returns-in-Err : goal.returns-in-Err
returns-in-Err c =
    let text = c.args.section.now.upto.now in
    let is : c.first_row-row.result.now ≡ first_row (drop c.loop-at.at text) = c.first_row-row.ensures ∙ ap first_row (take_rest text c.loop-at.at) in
    read_fault c.loop-at.lines.items text c.first_row-row.result.now c.loop-at.number c.loop-at.at c.in-Err.fault (reading_in (section c.args.section.now)) (omega arith) is (c.in_ok-line.ensures ∙ c.in-Err.is) c.loop-at.invariant.so_far

pub loop-at-smaller : goal.loop-at-smaller
loop-at-smaller c =
    let text = c.args.section.now.upto.now in
    let is : c.first_row-row.result.now ≡ first_row (drop c.loop-at.at text) = c.first_row-row.ensures ∙ ap first_row (take_rest text c.loop-at.at) in
    omega (arith, row_fits text c.first_row-row.result.now c.loop-at.at (omega arith) is)

pub loop-at-preserved : goal.loop-at-preserved
loop-at-preserved c =
    let text = c.args.section.now.upto.now in
    let is : c.first_row-row.result.now ≡ first_row (drop c.loop-at.at text) = c.first_row-row.ensures ∙ ap first_row (take_rest text c.loop-at.at) in
    let fits = row_fits text c.first_row-row.result.now c.loop-at.at (omega arith) is in
    record {
      within = fits.1;
      counted = omega (arith, fits.0);
      so_far = ap (λ lines. with_lines lines (read_rows (c.loop-at.number + 1) (c.loop-at.at + length c.first_row-row.result.now) (rows (drop (c.loop-at.at + length c.first_row-row.result.now) text)))) c.in_ok-keep-in-Ok.ensures
          ∙ read_turn c.loop-at.lines.items text c.first_row-row.result.now c.loop-at.number c.loop-at.at c.in-Ok.line (reading_in (section c.args.section.now)) (omega arith) is (c.in_ok-line.ensures ∙ c.in-Ok.is) c.loop-at.invariant.so_far;
    }

pub returns : goal.returns
returns c = read_end c.loop-at.lines.items c.args.section.now.upto.now c.loop-at.number c.loop-at.at (reading_in (section c.args.section.now)) (omega arith) c.loop-at.invariant.so_far
