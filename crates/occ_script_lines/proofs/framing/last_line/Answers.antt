use Rattle.std.proofs.Common.{◌≡◌, ap, drop, length, refl, sym, ◌∙◌, arith}
use Rattle.std.proofs.lemmas.List.{take_rest}
use Rattle.occ_lex.specs.Rows.{first_row}
use Rattle.occ_lex.proofs.RowLemmas.{row_fits}
use Rattle.occ_script_lines.specs.Sections.{last_line_of}
use Rattle.occ_script_lines.proofs.Blank.{last_all, last_more}
use Rattle.occ_script_lines.proofs.framing.last_line.Goals as goal

pub loop-at-smaller : goal.loop-at-smaller
loop-at-smaller c =
    let text = c.args.text.now in
    let is : c.first_row-row.result.now ≡ first_row (drop c.loop-at.at text) = c.first_row-row.ensures ∙ ap first_row (take_rest text c.loop-at.at) in
    omega (arith, row_fits text c.first_row-row.result.now c.loop-at.at (omega arith) is)

pub loop-at-preserved : goal.loop-at-preserved
loop-at-preserved c =
    let text = c.args.text.now in
    let is : c.first_row-row.result.now ≡ first_row (drop c.loop-at.at text) = c.first_row-row.ensures ∙ ap first_row (take_rest text c.loop-at.at) in
    let fits = row_fits text c.first_row-row.result.now c.loop-at.at (omega arith) is in
    record {
      within = fits.1;
      counted = omega (arith, fits.0);
      so_far = last_more text c.first_row-row.result.now c.loop-at.at c.loop-at.number c.loop-at.last c.later-last.result (last_line_of text) (omega arith) is c.later-last.ensures c.loop-at.invariant.so_far;
    }

pub returns : goal.returns
returns c = last_all c.args.text.now c.loop-at.at c.loop-at.number c.loop-at.last (last_line_of c.args.text.now) (omega arith) c.loop-at.invariant.so_far
