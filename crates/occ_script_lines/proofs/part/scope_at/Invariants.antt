use Rattle.std.proofs.Common.{◌≡◌, drop}
use Rattle.occ_usage.specs.occ_meaning.Context.{part_at}
use Rattle.occ_syntax.specs.View.{tree}
use Rattle.occ_script_lines.specs.Places.{scope_list}
use Rattle.occ_script_lines.proofs.part.scope_at.Given as goal

-- the scope and the part at what is left of the path are those at the whole path
abbrev pub invariant-loop-place : goal.invariant-loop-place
invariant-loop-place l = record {
  scope : scope_list (drop l.place-index l.place-items) l.scope (tree l.part) ≡ scope_list l.fn.path l.fn.program.params (tree l.fn.program.body);
  part : part_at (drop l.place-index l.place-items) (tree l.part) ≡ part_at l.fn.path (tree l.fn.program.body);
}
