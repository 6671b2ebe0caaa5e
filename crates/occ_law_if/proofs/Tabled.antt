-- A law's answer as an answer of the table.
use Rattle.std.proofs.Common.{◌≡◌, ℕ, ◌↔◌, Bool, IsTrue, Result, IfOk, List, sym, subst}
use Rattle.std.proofs.lemmas.Result.{IfOk-weaker}
use Rattle.occ_syntax.specs.occ_base.declared.memory.Memory.{Memory}
use Rattle.occ_syntax.specs.occ_base.declared.names.Name.{Name}
use Rattle.occ_syntax.specs.declared.scope.Kind.{Kind}
use Rattle.occ_syntax.specs.Scopes.{environment}
use Rattle.occ_syntax.specs.Tree.{Tree}
use Rattle.occ_syntax.specs.Usage.{Keeps}
use Rattle.occ_law_shape.specs.occ_law.RuleTable.{LAW, SIDES}

-- where both parts keep the rules, the law holds where they are its sides
pub in_table : (n k : ℕ) (S : List (Name × Kind)) (l r : Tree) → n ≡ k → Keeps (environment S) l → Keeps (environment S) r → (result : Result Bool Memory)
    → IfOk result (λ answer. IsTrue answer ↔ ((place : List ℕ) × SIDES k S place l r)) → IfOk result (λ answer. IsTrue answer ↔ LAW n S l r)
in_table n k S l r e left right result law = IfOk-weaker result _ _ (λ answer test. (
  (λ h. let s = test.0 h in record { place = s.0; sides = subst (λ m. SIDES m S s.0 l r) (sym e) s.1; left = left; right = right }),
  (λ h. test.1 (h.place, subst (λ m. SIDES m S h.place l r) e h.sides)),
)) law
