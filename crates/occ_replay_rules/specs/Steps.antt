-- What steps derive from a process, and why they stop.
use Rattle.std.specs.Prelude.{ℕ, ◌≡◌, ◌+◌, List, [], ◌∷◌, ◌++◌, length, Option, Some, None}
use Rattle.occ_print.specs.occ_base.declared.names.Name.{Name}
use Rattle.occ_law_sound.specs.occ_law.RuleTable.{LAW}
use Rattle.occ_parse_part.specs.occ_meaning.Context.{part_at, put}
use Rattle.occ_parse_part.specs.Parts.{Part}
use Rattle.occ_parse_part.specs.Resolving.{part_fault, part_process}
use Rattle.occ_script_lines.specs.declared.direction.Direction.{Direction}
use Rattle.occ_script_lines.specs.declared.direction.Direction.TheVariants as direction
use Rattle.occ_script_lines.specs.Places.{scope_list}
use Rattle.occ_print.specs.occ_syntax.declared.scope.Kind.{Kind}
use Rattle.occ_print.specs.occ_syntax.Scopes.{environment}
use Rattle.occ_print.specs.occ_syntax.Tree.{Tree}
use Rattle.occ_print.specs.occ_syntax.Usage.{Keeps}

-- A step: the number of its law, where the name that it gives is that of one; the way in which the law is used; the path of a
-- part; and the part that comes into its place, as it is read.
pub record Step : Type 0 where
  pub law : Option ℕ
  pub dir : Direction
  pub path : List ℕ
  pub part : Part

-- the law holds from the old part to the new one, or back
abbrev pub Joins : Direction → ℕ → List (Name × Kind) → Tree → Tree → Type 0
Joins direction.Forward n S old new = LAW n S old new
Joins direction.Backward n S old new = LAW n S new old

-- the scope at the path of a step, the part that comes there, and the process with it put in
abbrev pub scope_there : List (Name × Kind) → Tree → Step → List (Name × Kind)
scope_there S p step = scope_list step.path S p

abbrev pub new_part : List (Name × Kind) → Tree → Step → Tree
new_part S p step = part_process step.part (scope_there S p step)

abbrev pub new_whole : List (Name × Kind) → Tree → Step → Tree
new_whole S p step = put step.path p (new_part S p step)

-- The part of a step may be put in: it has no fault in the scope there, and the whole with it keeps all rules.
pub record IsAcceptable (S : List (Name × Kind)) (p : Tree) (step : Step) : Type 0 where
  pub faultless : part_fault step.part (scope_there S p step) ≡ None
  pub keeps : Keeps (environment S) (new_whole S p step)

-- A step leads from a process in a scope to the process with its part put in.
pub record IsGoodStep (S : List (Name × Kind)) (p : Tree) (step : Step) : Type 0 where
  pub law : ℕ
  pub named : step.law ≡ Some law
  pub old : Tree
  pub there : part_at step.path p ≡ Some old
  pub acceptable : IsAcceptable S p step
  pub joins : Joins step.dir law (scope_there S p step) old (new_part S p step)

-- steps lead from one process to another, one after the other
pub data Derives (S : List (Name × Kind)) : Tree → List Step → Tree → Type 0 where
  no_step : (p : Tree) → Derives S p [] p
  and_step : (p q : Tree) (step : Step) (steps : List Step) → IsGoodStep S p step → Derives S (new_whole S p step) steps q → Derives S p (step ∷ steps) q

-- ---- why a step isn't good: the first of these that stands

pub data Lack : Type 0 where
  no_law : Lack
  no_path : Lack
  not_accepted : Lack
  not_instance : Lack

-- No law has its name; or there is no part at its path; or its part may not be put in; or the law doesn't join the two parts.
pub data Lacks (S : List (Name × Kind)) (p : Tree) (step : Step) : Lack → Type 0 where
  unnamed : step.law ≡ None → Lacks S p step no_law
  nowhere : (law : ℕ) → step.law ≡ Some law → part_at step.path p ≡ None → Lacks S p step no_path
  unacceptable : (law : ℕ) (old : Tree) → step.law ≡ Some law → part_at step.path p ≡ Some old → (IsAcceptable S p step → ⊥) → Lacks S p step not_accepted
  unjoined : (law : ℕ) (old : Tree) → step.law ≡ Some law → part_at step.path p ≡ Some old → IsAcceptable S p step
      → (Joins step.dir law (scope_there S p step) old (new_part S p step) → ⊥) → Lacks S p step not_instance

-- Steps stop at the one of that number, from 1, for that lack: those in front of it lead to a process from which it isn't good.
pub record Stops (S : List (Name × Kind)) (p : Tree) (steps : List Step) (number : ℕ) (lack : Lack) : Type 0 where
  pub front : List Step
  pub step : Step
  pub rest : List Step
  pub parts : steps ≡ front ++ step ∷ rest
  pub number_is : number ≡ length front + 1
  pub here : Tree
  pub derived : Derives S p front here
  pub lacks : Lacks S here step lack
