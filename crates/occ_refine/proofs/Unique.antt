-- Two programs have one verdict.
use Rattle.std.proofs.Common.{◌≡◌, List, refl, sym, ap}
use Rattle.occ_syntax.specs.occ_base.declared.names.Name.{Name}
use Rattle.occ_syntax.specs.declared.scope.Kind.{Kind}
use Rattle.occ_syntax.specs.Tree.{Tree}
use Rattle.occ_norm.specs.occ_behaviour.declared.behaviour.Side.TheVariants.{First, Second}
use Rattle.occ_norm.specs.occ_behaviour.declared.behaviour.Verdict.{Verdict}
use Rattle.occ_norm.specs.occ_behaviour.declared.behaviour.Verdict.TheVariants.{Same, Differ}
use Rattle.occ_norm.proofs.from_compare.Differences.{one_difference, one_side}
use Rattle.occ_refine.specs.Verdict.{IsVerdictOf}

module _ (params : List (Name × Kind)) (p q : Tree) where
  pub one_verdict : (v w : Verdict) → IsVerdictOf params p q v → IsVerdictOf params p q w → v ≡ w
  one_verdict Same Same h k = refl
  one_verdict Same (Differ d side) h k = sym (k.same.1 (h.same.0 refl))
  one_verdict (Differ b side) Same h k = h.same.1 (k.same.0 refl)
  one_verdict (Differ b First) (Differ d First) h k = ap (λ x. Differ x First) (one_difference params p q b d h.first k.first)
  one_verdict (Differ b First) (Differ d Second) h k = absurd (one_side params p q b d h.first k.first)
  one_verdict (Differ b Second) (Differ d First) h k = absurd (one_side params p q d b k.first h.first)
  one_verdict (Differ b Second) (Differ d Second) h k = ap (λ x. Differ x Second) (one_difference params q p b d h.first k.first)
