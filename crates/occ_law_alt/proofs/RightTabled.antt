-- A law's right side as the table's.
use Rattle.std.proofs.Common.{◌≡◌, ℕ, Option, Result, IfOk, List, sym, subst}
use Rattle.std.proofs.lemmas.Result.{IfOk-weaker}
use Rattle.occ_syntax.specs.occ_base.declared.memory.Memory.{Memory}
use Rattle.occ_syntax.specs.occ_base.declared.names.Name.{Name}
use Rattle.occ_syntax.specs.declared.proc.Proc.{Proc}
use Rattle.occ_syntax.specs.declared.scope.Kind.{Kind}
use Rattle.occ_syntax.specs.Tree.{Tree}
use Rattle.occ_law_shape.specs.occ_law.declared.place.Place.{Place}
use Rattle.occ_law_shape.specs.occ_law.Instances.{IsInstance, IsOnly, sizes}
use Rattle.occ_law_shape.specs.occ_law.RuleTable.{DIRECT_SIDES}

-- where the number is the law's
pub in_table : (n k : ℕ) (S : List (Name × Kind)) (l : Tree) (place : Place) → n ≡ k → (result : Result (Option Proc) Memory) → IfOk result (IsOnly (DIRECT_SIDES k S (sizes place)) l)
    → IfOk result (IsInstance n S l place)
in_table n k S l place e result h = IfOk-weaker result _ _ (λ found f. subst (λ m. IsInstance m S l place found) (sym e) f) h

-- alt-order has none
pub order_has_none : (n : ℕ) (S : List (Name × Kind)) (l : Tree) (ks : List ℕ) → n ≡ 27 → (r : Tree) → DIRECT_SIDES n S ks l r → ⊥
order_has_none n S l ks e r d = nothing (subst (λ m. DIRECT_SIDES m S ks l r) e d)
  where
    nothing : DIRECT_SIDES 27 S ks l r → ⊥
    nothing d = d
