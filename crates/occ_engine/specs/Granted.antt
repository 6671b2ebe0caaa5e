-- Wishes granted one after the other, and what an expansion comes to.
use Rattle.std.specs.Prelude.{ℕ, ◌≡◌, List, ◌∷◌, ◌++◌, None, Some}
use Rattle.occ_syntax.specs.occ_base.declared.names.Name.{Name}
use Rattle.occ_engine.specs.declared.fault.EngineFault.{EngineFault}
use Rattle.occ_engine.specs.declared.fault.EngineFault.TheVariants as fault
use Rattle.occ_engine.specs.declared.fault.Stopped.{Stopped}
use Rattle.occ_engine.specs.declared.fault.Stopped.TheVariants as stopped
use Rattle.occ_engine.specs.declared.outcome.Outcome.{Outcome}
use Rattle.occ_engine.specs.Moved.{moves_of}
use Rattle.occ_replay_rules.specs.Expansion.{Grants, IsBlocked, IsExpanded, IsNoPar}
use Rattle.occ_replay_rules.specs.Moves.{IsAdmitted, IsApplied, Move, Wish}
use Rattle.occ_script_write.specs.occ_meaning.Context.{part_at}
use Rattle.occ_script_write.specs.occ_script_lines.Places.{scope_list}
use Rattle.occ_script_write.specs.declared.writing.Done.{Done}
use Rattle.occ_syntax.specs.declared.scope.Kind.{Kind}
use Rattle.occ_syntax.specs.declared.scope.Program.{Program}
use Rattle.occ_syntax.specs.Tree.{Tree}
use Rattle.occ_syntax.specs.View.{tree}

-- where the law of the wish makes something of the part there, it makes something that may not be put in
abbrev pub IsBarred : List (Name × Kind) → Tree → Wish → Type 0
IsBarred S p wish = (old new : Tree) → part_at wish.path p ≡ Some old → IsApplied wish.dir wish.law (scope_list wish.path S p) wish.wanted old new
    → (found : Tree) × IsApplied wish.dir wish.law (scope_list wish.path S p) wish.wanted old found × (IsAdmitted S p wish.path found → ⊥)

-- why a wish isn't granted
abbrev pub IsNotGranted : List (Name × Kind) → Tree → Wish → Stopped → Type 0
IsNotGranted S p wish stopped.NoPath = part_at wish.path p ≡ None
IsNotGranted S p wish stopped.NotApplicable = (old new : Tree) → part_at wish.path p ≡ Some old
    → IsApplied wish.dir wish.law (scope_list wish.path S p) wish.wanted old new → ⊥
IsNotGranted S p wish stopped.NotAccepted = IsBarred S p wish
IsNotGranted S p wish stopped.Memory = Unit {0}
IsNotGranted S p wish stopped.NoLaw = ⊥

-- wishes are granted by steps
pub record IsBrought (from : Program) (wishes : List Wish) (steps : List Done) (to : Program) : Type 0 where
  pub name : to.name ≡ from.name
  pub params : to.params ≡ from.params
  pub granted : Grants from.params (tree from.body) wishes (moves_of steps) (tree to.body)

abbrev pub IsBroughtOut : Program → List Wish → Outcome → Type 0
IsBroughtOut from wishes outcome = IsBrought from wishes outcome.steps outcome.to

-- or one of them isn't, once those in front of it are
pub record IsCutOff (from : Program) (wishes : List Wish) (s : Stopped) : Type 0 where
  pub front : List Wish
  pub wish : Wish
  pub rest : List Wish
  pub parts : wishes ≡ front ++ wish ∷ rest
  pub moves : List Move
  pub here : Tree
  pub granted : Grants from.params (tree from.body) front moves here
  pub refused : IsNotGranted from.params here wish s

-- what stops wishes; out of memory says nothing
abbrev pub AreCutOff : Program → List Wish → Stopped → Type 0
AreCutOff from wishes stopped.NoPath = IsCutOff from wishes stopped.NoPath
AreCutOff from wishes stopped.NotAccepted = IsCutOff from wishes stopped.NotAccepted
AreCutOff from wishes stopped.NotApplicable = IsCutOff from wishes stopped.NotApplicable
AreCutOff from wishes stopped.NoLaw = ⊥
AreCutOff from wishes stopped.Memory = Unit {0}

-- the steps expand the PAR at a path
abbrev pub IsExpansion : Program → List ℕ → Outcome → Type 0
IsExpansion from path outcome = IsExpanded from.params (tree from.body) path (moves_of outcome.steps) (tree outcome.to.body)

-- or there is no part, or it isn't a PAR of two parts, or what comes of one of the moves may not be put in
abbrev pub IsNotExpanded : Program → List ℕ → EngineFault → Type 0
IsNotExpanded from path (fault.NoPath k) = (k ≡ 1) × (part_at path (tree from.body) ≡ None)
IsNotExpanded from path fault.NotPar = IsNoPar (tree from.body) path
IsNotExpanded from path (fault.NotAccepted k) = (k ≡ 1) × IsBlocked from.params (tree from.body) path
IsNotExpanded from path (fault.NoLaw k) = ⊥
IsNotExpanded from path (fault.NotApplicable k) = ⊥
IsNotExpanded from path fault.Memory = Unit {0}
