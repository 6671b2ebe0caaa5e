-- Which verdict two programs have.
use Rattle.std.specs.Prelude.{◌≡◌, ◌↔◌, List}
use Rattle.occ_syntax.specs.occ_base.declared.names.Name.{Name}
use Rattle.occ_syntax.specs.declared.scope.Kind.{Kind}
use Rattle.occ_syntax.specs.Same.{SAME}
use Rattle.occ_syntax.specs.Scopes.{environment}
use Rattle.occ_syntax.specs.Tree.{Tree}
use Rattle.occ_norm.specs.occ_behaviour.declared.behaviour.Side.TheVariants.{First, Second}
use Rattle.occ_norm.specs.occ_behaviour.declared.behaviour.Verdict.{Verdict}
use Rattle.occ_norm.specs.occ_behaviour.declared.behaviour.Verdict.TheVariants.{Same, Differ}
use Rattle.occ_norm.specs.occ_compare.Programs.{IsDifference}

-- the behaviour is the first difference of the programs, and the side has it
abbrev pub IsFirst : List (Name × Kind) → Tree → Tree → Verdict → Type 0
IsFirst params p q Same = Unit {0}
IsFirst params p q (Differ b First) = IsDifference params p q b
IsFirst params p q (Differ b Second) = IsDifference params q p b

-- Same exactly where the programs mean the same in their interface, and else their first difference.
pub record IsVerdictOf (params : List (Name × Kind)) (p q : Tree) (verdict : Verdict) : Type 0 where
  pub same : (verdict ≡ Same) ↔ SAME (environment params) p q
  pub first : IsFirst params p q verdict
