use Rattle.std.proofs.Common.{◌≡◌, ap, drop, false, length, sym, true, ◌∙◌, arith}
use Rattle.std.proofs.lemmas.List.{take_rest}
use Rattle.occ_lex.specs.Rows.{first_row}
use Rattle.occ_lex.proofs.RowLemmas.{row_fits}
use Rattle.occ_script_lines.specs.Lines.{is_blank_row}
use Rattle.occ_script_lines.specs.Sections.{is_blank_in, section}
use Rattle.occ_script_lines.proofs.Blank.{blank_all, blank_go, blank_stop}
use Rattle.occ_script_lines.proofs.framing.is_blank.Goals as goal

pub returns-then-not-is_blank_row : goal.returns-then-not-is_blank_row
returns-then-not-is_blank_row c =
    let text = c.args.section.now.upto.now in
    let is : c.first_row-row.result.now ≡ first_row (drop c.loop-at.at text) = c.first_row-row.ensures ∙ ap first_row (take_rest text c.loop-at.at) in
    let plain : is_blank_row c.first_row-row.result.now ≡ false = grind arith in
    blank_stop text c.first_row-row.result.now c.loop-at.at (is_blank_in (section c.args.section.now)) (omega arith) is plain c.loop-at.invariant.so_far

pub loop-at-smaller : goal.loop-at-smaller
loop-at-smaller c =
    let text = c.args.section.now.upto.now in
    let is : c.first_row-row.result.now ≡ first_row (drop c.loop-at.at text) = c.first_row-row.ensures ∙ ap first_row (take_rest text c.loop-at.at) in
    omega (arith, row_fits text c.first_row-row.result.now c.loop-at.at (omega arith) is)

pub loop-at-preserved : goal.loop-at-preserved
loop-at-preserved c =
    let text = c.args.section.now.upto.now in
    let is : c.first_row-row.result.now ≡ first_row (drop c.loop-at.at text) = c.first_row-row.ensures ∙ ap first_row (take_rest text c.loop-at.at) in
    let fits = row_fits text c.first_row-row.result.now c.loop-at.at (omega arith) is in
    let blank : is_blank_row c.first_row-row.result.now ≡ true = grind arith in
    record {
      within = fits.1;
      so_far = blank_go text c.first_row-row.result.now c.loop-at.at (is_blank_in (section c.args.section.now)) (omega arith) is blank c.loop-at.invariant.so_far;
    }

pub returns : goal.returns
returns c = blank_all c.args.section.now.upto.now c.loop-at.at (is_blank_in (section c.args.section.now)) (omega arith) c.loop-at.invariant.so_far
