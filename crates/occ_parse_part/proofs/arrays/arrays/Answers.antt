use Rattle.std.proofs.Common.{[], ap, sym, ◌∙◌}
use Rattle.std.specs.List.{flat_map}
use Rattle.occ_parse.specs.occ_names.Once.{same_number, with_all}
use Rattle.occ_parse_forms.specs.Shape.{shape}
use Rattle.occ_parse.specs.occ_parse_layout.declared.placed.Placed.{Placed}
use Rattle.occ_parse_part.specs.Arrays.{line_arrays}
use Rattle.occ_parse_part.proofs.Listed.{lines_flat, noted_done, noted_more}
use Rattle.occ_parse_part.proofs.arrays.arrays.Goals as goal

pub loop-line-init : goal.loop-line-init
loop-line-init c =
    ap (λ ks. with_all same_number ks (flat_map (λ (p : Placed). line_arrays (shape p.form)) c.args.lines.now)) c.new-arrays.ensures
    ∙ ap (with_all same_number []) (sym (lines_flat c.args.lines.now))

pub loop-line-preserved : goal.loop-line-preserved
loop-line-preserved c =
    noted_more (λ (p : Placed). line_arrays (shape p.form)) c.args.lines.now c.loop-line.line-index c.line-item.result _ _ _ c.loop-line-test.true c.line-item.is c.in_ok-add_line.ensures ∙ c.loop-line.invariant

pub returns : goal.returns
returns c = sym (noted_done (λ (p : Placed). line_arrays (shape p.form)) c.args.lines.now c.loop-line.line-index _ c.loop-line-test.false) ∙ c.loop-line.invariant
