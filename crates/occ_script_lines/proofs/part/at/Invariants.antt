use Rattle.std.proofs.Common.{◌≡◌, drop}
use Rattle.occ_usage.specs.occ_meaning.Context.{part_at}
use Rattle.occ_syntax.specs.View.{tree}
use Rattle.occ_script_lines.proofs.part.at.Given as goal

-- the part at what is left of the path is that at the whole path
abbrev pub invariant-loop-place : goal.invariant-loop-place
invariant-loop-place l = part_at (drop l.place-index l.place-items) (tree l.part) ≡ part_at l.fn.path (tree l.fn.program.body)
