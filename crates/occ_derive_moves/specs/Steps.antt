-- Steps of a derivation: laws used on parts of a process, one after the other, whatever the length of a printed line.
use Rattle.std.specs.Prelude.{◌≡◌, List, [], ◌∷◌, Some}
use Rattle.occ_target_laws.specs.occ_base.declared.names.Name.{Name}
use Rattle.occ_replay_rules.specs.Moves.{Move}
use Rattle.occ_replay_rules.specs.occ_meaning.Context.{part_at, put}
use Rattle.occ_replay_rules.specs.Steps.{Joins}
use Rattle.occ_replay_rules.specs.occ_script_lines.Places.{scope_list}
use Rattle.occ_target_laws.specs.occ_syntax.declared.scope.Kind.{Kind}
use Rattle.occ_target_laws.specs.occ_syntax.Scopes.{environment}
use Rattle.occ_target_laws.specs.occ_syntax.Tree.{Tree}
use Rattle.occ_target_laws.specs.occ_syntax.Usage.{Keeps}

-- A step may be taken: there is a part at its path, the whole with the new part keeps all rules, and the law joins the two parts.
pub record IsStep (S : List (Name × Kind)) (p : Tree) (move : Move) : Type 0 where
  pub old : Tree
  pub there : part_at move.path p ≡ Some old
  pub keeps : Keeps (environment S) (put move.path p move.part)
  pub joins : Joins move.dir move.law (scope_list move.path S p) old move.part

-- steps lead from one process to another, one after the other
pub data Steps (S : List (Name × Kind)) : Tree → List Move → Tree → Type 0 where
  no_step : (p : Tree) → Steps S p [] p
  and_step : (p q : Tree) (move : Move) (moves : List Move) → IsStep S p move → Steps S (put move.path p move.part) moves q → Steps S p (move ∷ moves) q

-- some steps do
pub record Derivable (S : List (Name × Kind)) (p q : Tree) : Type 0 where
  pub moves : List Move
  pub steps : Steps S p moves q
