-- Names below a number: those of processes, and of what moves make of them.
use Rattle.std.specs.Prelude.{ℕ, ◌<◌, ◌≡◌, true, List, [], ◌∷◌}
use Rattle.std.specs.List.{AllByRecursion}
use Rattle.occ_engine.specs.occ_base.declared.names.Name.{Name}
use Rattle.occ_engine.specs.occ_replay_rules.Moves.{Move}
use Rattle.occ_engine.specs.occ_meaning.Context.{put}
use Rattle.occ_engine.specs.occ_parse.Known.{declares, is_below, params_declare}
use Rattle.occ_engine.specs.occ_print.Known.{PartIsKnown}
use Rattle.occ_engine.specs.occ_script_lines.Places.{scope_list}
use Rattle.occ_engine.specs.occ_syntax.declared.scope.Kind.{Kind}
use Rattle.occ_engine.specs.occ_syntax.Scopes.{environment}
use Rattle.occ_engine.specs.occ_syntax.Tree.{Tree}
use Rattle.occ_engine.specs.occ_syntax.Types.{scope_kept, types_kept}

-- the names of a scope are below n, and those that a process declares
pub record NamesAreBelow (n : ℕ) (scope : List (Name × Kind)) (p : Tree) : Type 0 where
  pub scope_names : params_declare (is_below n) scope ≡ true
  pub declared : declares (is_below n) p ≡ true

-- a process that keeps types in a scope, where all names of it and of the scope are below n
pub record IsKnownPart (n : ℕ) (scope : List (Name × Kind)) (part : Tree) : Type 0 where
  pub known : PartIsKnown n part
  pub scope_known : AllByRecursion (λ (p : Name × Kind). p.0.0 < n) scope
  pub scope_kept_is : scope_kept scope ≡ true
  pub types : types_kept part (environment scope) ≡ true

-- the part of each move is one, in the scope at its path
abbrev pub MovesAreKnown : ℕ → List (Name × Kind) → Tree → List Move → Type 0
MovesAreKnown n S p [] = Unit {0}
MovesAreKnown n S p (move ∷ moves) =
    IsKnownPart n (scope_list move.path S p) move.part × MovesAreKnown n S (put move.path p move.part) moves

-- moves that put in such parts lead to such a process
pub record LeadToKnown (n : ℕ) (S : List (Name × Kind)) (p : Tree) (moves : List Move) (q : Tree) : Type 0 where
  pub moves_are : MovesAreKnown n S p moves
  pub result : IsKnownPart n S q
  pub names : NamesAreBelow n S q
