-- Behaviour texts, by how behaviours are written.
use Rattle.std.specs.Prelude.{ℕ, ◌≡◌, true, List}
use Rattle.occ_syntax.specs.occ_base.declared.names.Name.{Name}
use Rattle.occ_syntax.specs.declared.scope.Kind.{Kind}
use Rattle.occ_compare.specs.occ_behaviour.Texts.{text_of_behaviour, text_of_verdict}
use Rattle.occ_compare.specs.occ_behaviour.declared.behaviour.Behaviour.{Behaviour}
use Rattle.occ_compare.specs.occ_behaviour.declared.behaviour.Last.{Last}
use Rattle.occ_compare.specs.occ_behaviour.declared.behaviour.Last.TheVariants.{Refuses, Ends}
use Rattle.occ_compare.specs.occ_behaviour.declared.behaviour.Side.{Side}
use Rattle.occ_compare.specs.occ_behaviour.declared.behaviour.Verdict.TheVariants.{Differ}
use Rattle.occ_nform_read.specs.occ_nform_table.Lines.{is_rising}
use Rattle.occ_behaviour_read.specs.Claims.{bare_lines}
use Rattle.occ_compare.specs.Programs.{IsOfInterface}

-- a refused set has its events in their order
abbrev pub IsInOrder : List (Name × Kind) → Last → Type 0
IsInOrder params (Refuses set) = is_rising params 0 set ≡ true
IsInOrder params (Ends state) = Unit {0}

-- The lines, without their ends, of the text of a behaviour of the interface, which may be told as the difference of two programs.
pub data IsBehaviourText (names : List (List ℕ)) (params : List (Name × Kind)) (b : Behaviour) (lines : List (List ℕ)) : Type 0 where
  alone : IsOfInterface params b → IsInOrder params b.last → lines ≡ bare_lines (text_of_behaviour names b) → IsBehaviourText names params b lines
  told : (side : Side) → IsOfInterface params b → IsInOrder params b.last → lines ≡ bare_lines (text_of_verdict names (Differ b side))
      → IsBehaviourText names params b lines

abbrev pub AreBehaviourLines : List (List ℕ) → List (Name × Kind) → List (List ℕ) → Type 0
AreBehaviourLines names params lines = (b : Behaviour) × IsBehaviourText names params b lines
