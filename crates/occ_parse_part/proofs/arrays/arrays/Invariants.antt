use Rattle.std.proofs.Common.{◌≡◌, drop}
use Rattle.std.specs.List.{flat_map}
use Rattle.occ_parse.specs.occ_names.Once.{same_number, with_all}
use Rattle.occ_parse_forms.specs.Shape.{shape}
use Rattle.occ_parse.specs.occ_parse_layout.declared.placed.Placed.{Placed}
use Rattle.occ_parse.specs.occ_parse_layout.Layout.{laid_rows}
use Rattle.occ_parse_part.specs.Arrays.{arrays_of, line_arrays}
use Rattle.occ_parse_part.proofs.arrays.arrays.Given as goal

-- those so far and those that are left are all
abbrev pub invariant-loop-line : goal.invariant-loop-line
invariant-loop-line l = with_all same_number l.arrays (flat_map (λ (p : Placed). line_arrays (shape p.form)) (drop l.line-index l.lines)) ≡ arrays_of (laid_rows l.lines)
