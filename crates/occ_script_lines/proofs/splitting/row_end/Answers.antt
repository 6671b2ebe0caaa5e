use Rattle.std.proofs.Common.{◌≡◌, ◌+◌, ap, arith, drop, length, ◌∙◌}
use Rattle.std.proofs.lemmas.List.{take_rest}
use Rattle.occ_lex.specs.Rows.{first_row}
use Rattle.occ_lex.proofs.RowLemmas.{row_fits}
use Rattle.occ_script_lines.proofs.splitting.row_end.Goals as goal

pub overflow_add-result : goal.overflow_add-result
overflow_add-result c =
    let is : c.first_row-row.result.now ≡ first_row (drop c.args.at c.args.text.now) = c.first_row-row.ensures ∙ ap first_row (take_rest c.args.text.now c.args.at) in
    omega (arith, row_fits c.args.text.now c.first_row-row.result.now c.args.at c.requires is)

pub returns : goal.returns
returns c =
    let is : c.first_row-row.result.now ≡ first_row (drop c.args.at c.args.text.now) = c.first_row-row.ensures ∙ ap first_row (take_rest c.args.text.now c.args.at) in
    let fits = row_fits c.args.text.now c.first_row-row.result.now c.args.at c.requires is in
    record {
      end = ap (λ row. c.args.at + length row) is;
      within = fits.1;
      further = omega (arith, fits.0);
    }
