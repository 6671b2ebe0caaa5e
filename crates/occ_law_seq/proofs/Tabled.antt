-- A law's answer as an answer of the table.
use Rattle.std.proofs.Common.{◌≡◌, ℕ, ◌↔◌, Bool, IsTrue, true, not, Result, IfOk, List, [], ◌∷◌, ap, sym, ◌∙◌, subst}
use Rattle.std.proofs.lemmas.Bool.{and_parts, not-true}
use Rattle.std.proofs.lemmas.Result.{IfOk-weaker}
use Rattle.occ_syntax.specs.occ_base.declared.memory.Memory.{Memory}
use Rattle.occ_syntax.specs.occ_base.declared.names.Name.{Name}
use Rattle.occ_syntax.specs.declared.scope.Kind.{Kind}
use Rattle.occ_law_shape.proofs.from_meaning.Facts.{and_three, false_not_true}
use Rattle.occ_syntax.specs.Names.{is_in}
use Rattle.occ_syntax.specs.Scopes.{Environment, environment, variable_width}
use Rattle.occ_syntax.specs.Tree.{Exp, Tree}
use Rattle.occ_syntax.specs.Types.{agree, is_pair, pairs_kept, type_of, types_kept}
use Rattle.occ_syntax.specs.Usage.{Keeps}
use Rattle.occ_law_shape.specs.occ_law.RuleTable.{LAW, SIDES}
use Rattle.occ_law_seq.specs.Assignment.{ArePairs, HasPairs}

-- where both parts keep the rules, the law holds where they are its sides
pub in_table : (n k : ℕ) (S : List (Name × Kind)) (l r : Tree) → n ≡ k → Keeps (environment S) l → Keeps (environment S) r → (result : Result Bool Memory)
    → IfOk result (λ answer. IsTrue answer ↔ ((place : List ℕ) × SIDES k S place l r)) → IfOk result (λ answer. IsTrue answer ↔ LAW n S l r)
in_table n k S l r e left right result law = IfOk-weaker result _ _ (λ answer test. (
  (λ h. let s = test.0 h in record { place = s.0; sides = subst (λ m. SIDES m S s.0 l r) (sym e) s.1; left = left; right = right }),
  (λ h. test.1 (h.place, subst (λ m. SIDES m S h.place l r) e h.sides)),
)) law

paired : (Γ : Environment) (xs : List ℕ) (es : List Exp) → pairs_kept Γ xs es ≡ true → ArePairs xs es
paired Γ [] [] h = tt
paired Γ (x ∷ xs) (e ∷ es) h =
    let k = and_three (agree (variable_width Γ x) (type_of Γ e)) (not (is_in xs x)) (pairs_kept Γ xs es) h in
    (not-true (is_in xs x) k.1, paired Γ xs es k.2)
paired Γ [] (e ∷ es) h = false_not_true h
paired Γ (x ∷ xs) [] h = false_not_true h

-- an assignment that keeps the rules has pairs
pub pairs_of_kept : (Γ : Environment) (p : Tree) → Keeps Γ p → HasPairs p
pairs_of_kept Γ p kept xs es e = paired Γ xs es (and_parts (is_pair xs) (pairs_kept Γ xs es) (ap (λ z. types_kept z Γ) (sym e) ∙ kept.types)).1
