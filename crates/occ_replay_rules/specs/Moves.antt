-- Moves: laws used on parts of a process, one after the other.
use Rattle.std.specs.Prelude.{ℕ, ◌≡◌, ◌≤◌, List, [], ◌∷◌, Option, Some, None}
use Rattle.occ_print.specs.occ_base.declared.names.Name.{Name}
use Rattle.occ_law_sound.specs.occ_law.RuleTable.{IsDirect}
use Rattle.occ_parse_part.specs.occ_meaning.Context.{part_at, put}
use Rattle.occ_print.specs.Lines.{most_symbols, part_lines}
use Rattle.occ_replay_rules.specs.Steps.{Joins}
use Rattle.occ_script_lines.specs.declared.direction.Direction.{Direction}
use Rattle.occ_script_lines.specs.declared.direction.Direction.TheVariants as direction
use Rattle.occ_script_lines.specs.Places.{scope_list}
use Rattle.occ_print.specs.occ_syntax.declared.scope.Kind.{Kind}
use Rattle.occ_print.specs.occ_syntax.Scopes.{environment}
use Rattle.occ_print.specs.occ_syntax.Tree.{Tree}
use Rattle.occ_print.specs.occ_syntax.Usage.{Keeps}

-- A move: the number of a law, the way in which it is used, the path of a part, and the part that comes into its place.
pub record Move : Type 0 where
  pub law : ℕ
  pub dir : Direction
  pub path : List ℕ
  pub part : Tree

-- A part may be put in: the whole with it keeps all rules, and none of its printed lines has more tokens than a line of a text may
-- have.
pub record IsAdmitted (S : List (Name × Kind)) (p : Tree) (path : List ℕ) (new : Tree) : Type 0 where
  pub keeps : Keeps (environment S) (put path p new)
  pub narrow : most_symbols (part_lines 0 new) ≤ 4096

-- A move may be made: there is a part at its path, the new part may be put in, and the law joins the two.
pub record IsMove (S : List (Name × Kind)) (p : Tree) (move : Move) : Type 0 where
  pub old : Tree
  pub there : part_at move.path p ≡ Some old
  pub admitted : IsAdmitted S p move.path move.part
  pub joins : Joins move.dir move.law (scope_list move.path S p) old move.part

-- moves lead from one process to another, one after the other
pub data Moves (S : List (Name × Kind)) : Tree → List Move → Tree → Type 0 where
  no_move : (p : Tree) → Moves S p [] p
  and_move : (p q : Tree) (move : Move) (moves : List Move) → IsMove S p move → Moves S (put move.path p move.part) moves q → Moves S p (move ∷ moves) q

-- ---- a law applied

-- What a law makes of a part: the part that is wanted, where the law joins the two; and where none is wanted, its direct result,
-- which is there forward alone.
abbrev pub IsApplied : Direction → ℕ → List (Name × Kind) → Option Tree → Tree → Tree → Type 0
IsApplied dir n S (Some wanted) old new = (new ≡ wanted) × Joins dir n S old wanted
IsApplied direction.Forward n S None old new = IsDirect n S old new
IsApplied direction.Backward n S None old new = ⊥

-- A wish: a law, a way, a path, and the part that is wanted there, if one is.
pub record Wish : Type 0 where
  pub law : ℕ
  pub dir : Direction
  pub path : List ℕ
  pub wanted : Option Tree

-- The wish is granted by a move.
pub record IsGranted (S : List (Name × Kind)) (p : Tree) (wish : Wish) (move : Move) : Type 0 where
  pub law : move.law ≡ wish.law
  pub dir : move.dir ≡ wish.dir
  pub path : move.path ≡ wish.path
  pub old : Tree
  pub there : part_at wish.path p ≡ Some old
  pub applied : IsApplied wish.dir wish.law (scope_list wish.path S p) wish.wanted old move.part
  pub admitted : IsAdmitted S p wish.path move.part
