-- Moves that are undone.
use Rattle.std.specs.Prelude.{◌≡◌, List, [], ◌∷◌, Some}
use Rattle.occ_tool_run.specs.occ_replay_rules.Moves.{Move}
use Rattle.occ_tool_run.specs.occ_meaning.Context.{part_at, put}
use Rattle.occ_tool_run.specs.occ_script_lines.declared.direction.Direction.{Direction}
use Rattle.occ_tool_run.specs.occ_script_lines.declared.direction.Direction.TheVariants as direction
use Rattle.occ_syntax.specs.Tree.{Tree}

abbrev pub opposite : Direction → Direction
opposite direction.Forward = direction.Backward
opposite direction.Backward = direction.Forward

-- The second move undoes the first, which is made from a process: by the same law, the other way round, it puts the part back in its
-- place that stood there.
pub record IsUndone (p : Tree) (move back : Move) : Type 0 where
  pub law : back.law ≡ move.law
  pub dir : back.dir ≡ opposite move.dir
  pub path : back.path ≡ move.path
  pub part : part_at move.path p ≡ Some back.part

-- for each of the moves from a process, in their order, the move that undoes it
abbrev pub AreUndone : Tree → List Move → List Move → Type 0
AreUndone p [] [] = Unit {0}
AreUndone p [] (back ∷ others) = ⊥
AreUndone p (move ∷ moves) [] = ⊥
AreUndone p (move ∷ moves) (back ∷ others) = IsUndone p move back × AreUndone (put move.path p move.part) moves others
