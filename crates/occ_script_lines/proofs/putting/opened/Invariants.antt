use Rattle.std.proofs.Common.{◌≡◌, drop}
use Rattle.std.specs.List.{AllByRecursion}
use Rattle.occ_usage.specs.occ_meaning.Context.{part_at, put}
use Rattle.occ_syntax.specs.Tree.{Tree}
use Rattle.occ_syntax.specs.View.{tree}
use Rattle.occ_script_lines.specs.Putting.{HasPart, within}
use Rattle.occ_script_lines.proofs.putting.opened.Given as goal

-- the processes so far are round the one that is left
abbrev pub invariant-loop-place : goal.invariant-loop-place
invariant-loop-place l = record {
  have : AllByRecursion HasPart l.round.items;
  put_in : (r : Tree) → within l.round.items (put (drop l.place-index l.place-items) (tree l.whole) r) ≡ put l.fn.path (tree l.fn.body) r;
  part : part_at (drop l.place-index l.place-items) (tree l.whole) ≡ part_at l.fn.path (tree l.fn.body);
}
