-- alt-false by the branch that the right side lacks.
use Rattle.std.proofs.Common.{◌≡◌, ◌↔◌, ℕ, true, List, [], ◌∷◌, ap, sym, ◌∙◌, subst}
use Rattle.occ_syntax.specs.occ_base.declared.names.Name.{Name}
use Rattle.occ_syntax.specs.declared.scope.Kind.{Kind}
use Rattle.occ_syntax.specs.Scopes.{Environment, environment}
use Rattle.occ_syntax.specs.Tree.{Exp, Waiting, Tree, alt, Branches, and_branch}
use Rattle.occ_syntax.specs.Types.{branches_kept, is_condition, types_kept}
use Rattle.occ_law_shape.specs.occ_law.Choice.{AltFalse, alt_false}
use Rattle.occ_law_shape.specs.occ_law.Lists.{tally}
use Rattle.occ_law_shape.specs.occ_law.States.{AreFew, IsNever}
use Rattle.occ_law_shape.proofs.Typed.{all_branches_kept, branch_kept}
use Rattle.occ_law_alt.specs.Lacking.{Lacks}
use Rattle.occ_law_alt.proofs.Begun.{alt_tells}
use Rattle.occ_law_alt.proofs.Sought.{carried}
use Rattle.occ_law_alt.proofs.Without.{around, lacks_there, one_lacked}

-- the condition of the branch that is lacked is a condition
pub lacked_typed : (Γ : Environment) (b : Exp) (w : Waiting) (p : Tree) (xs ys : Branches) (l : Tree) → alt xs ≡ l → types_kept l Γ ≡ true → Lacks b w p xs ys → is_condition Γ b ≡ true
lacked_typed Γ b w p xs ys l e kept h =
    let a = around h in
    let k : branches_kept xs Γ ≡ true = ap (λ z. types_kept z Γ) e ∙ kept in
    (branch_kept Γ b w p a.rest (all_branches_kept Γ a.front (and_branch b w p a.rest) (ap (λ z. branches_kept z Γ) (sym a.first) ∙ k)).1).0

false_to : (S : List (Name × Kind)) (b : Exp) (w : Waiting) (p : Tree) (xs ys : Branches) (l r : Tree) → alt xs ≡ l → alt ys ≡ r → Lacks b w p xs ys → (place : List ℕ) → AltFalse S place l r
    → AreFew S (b ∷ []) × IsNever (environment S) b
false_to S b w p xs ys l r e f h place (alt_false gs hs c v q few never) =
    let k = one_lacked (carried (Lacks c v q) (sym (alt_tells _ _ e)) (sym (alt_tells _ _ f)) (lacks_there c v q gs hs)) h in
    (subst (λ z. AreFew S (z ∷ [])) k.0 few, subst (IsNever (environment S)) k.0 never)

-- alt-false where its condition is FALSE in every state
pub false_law : (S : List (Name × Kind)) (b : Exp) (w : Waiting) (p : Tree) (xs ys : Branches) (l r : Tree) → alt xs ≡ l → alt ys ≡ r → Lacks b w p xs ys
    → (AreFew S (b ∷ []) × IsNever (environment S) b) ↔ ((place : List ℕ) × AltFalse S place l r)
false_law S b w p xs ys l r e f h = (
  (λ n.
      let a = around h in
      (tally a.front ∷ [], carried (AltFalse S (tally a.front ∷ [])) (ap alt (sym a.first) ∙ e) (ap alt (sym a.second) ∙ f) (alt_false a.front a.rest b w p n.0 n.1))),
  (λ k. false_to S b w p xs ys l r e f h k.0 k.1),
)

false_lacks : (S : List (Name × Kind)) (xs ys : Branches) (l r : Tree) → alt xs ≡ l → alt ys ≡ r → ((b : Exp) (w : Waiting) (p : Tree) → Lacks b w p xs ys → ⊥) → (place : List ℕ) → AltFalse S place l r → ⊥
false_lacks S xs ys l r e f never place (alt_false gs hs b w p few untrue) = never b w p (carried (Lacks b w p) (sym (alt_tells _ _ e)) (sym (alt_tells _ _ f)) (lacks_there b w p gs hs))

-- where the right side doesn't lack one branch, alt-false isn't
pub false_never : (S : List (Name × Kind)) (xs ys : Branches) (l r : Tree) → alt xs ≡ l → alt ys ≡ r → ((b : Exp) (w : Waiting) (p : Tree) → Lacks b w p xs ys → ⊥) → (place : List ℕ) × AltFalse S place l r → ⊥
false_never S xs ys l r e f never k = false_lacks S xs ys l r e f never k.0 k.1
