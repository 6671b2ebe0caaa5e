-- par-if by the choices of its sides.
use Rattle.std.proofs.Common.{◌≡◌, ℕ, ◌↔◌, Bool, IsTrue, true, ◌&&◌, List, [], refl, ap, sym, ◌∙◌, subst}
use Rattle.std.proofs.lemmas.Bool.{and_parts}
use Rattle.occ_syntax.specs.occ_base.declared.names.Name.{Name}
use Rattle.occ_syntax.specs.declared.scope.Kind.{Kind}
use Rattle.occ_syntax.specs.Scopes.{Environment, environment}
use Rattle.occ_syntax.specs.Tree.{Tree, par, select, Cases, no_case, and_case}
use Rattle.occ_syntax.specs.Types.{types_kept}
use Rattle.occ_syntax.specs.Usage.{Keeps}
use Rattle.occ_law_shape.specs.occ_meaning.Parallel.{two}
use Rattle.occ_law_shape.specs.occ_bits.Named.{are_conditions}
use Rattle.occ_law_shape.specs.occ_law.Lists.{conditions}
use Rattle.occ_law_shape.specs.occ_law.Parallel.{ParIf, each_case_beside, par_if}
use Rattle.occ_law_shape.specs.occ_law.States.{AreFew, IsExhaustive}
use Rattle.occ_law_shape.specs.Pieces.{each_choice}
use Rattle.occ_law_shape.proofs.Typed.{conditions_typed}

-- the conditions of an IF in a PAR of two are conditions
pub conditions_kept : (Γ : Environment) (l f s : Tree) (cs : Cases) → Keeps Γ l → l ≡ par (two f s) → f ≡ select cs → are_conditions Γ (conditions cs) ≡ true
conditions_kept Γ l f s cs k e g =
    let t : types_kept (par (two (select cs) s)) Γ ≡ true = subst (λ z. types_kept (par (two z s)) Γ ≡ true) g (subst (λ z. types_kept z Γ ≡ true) e k.types) in
    conditions_typed Γ cs (and_parts (types_kept (select cs) Γ) (types_kept s Γ && true) t).0

pieces : (cs : Cases) (q : Tree) → each_choice (λ b. b) (λ p. par (two p q)) cs ≡ each_case_beside cs q
pieces no_case q = refl
pieces (and_case b p cs) q = ap (and_case b (par (two p q))) (pieces cs q)

-- the IF of the left side, and what it makes of the right side
record Selection (S : List (Name × Kind)) (f s r : Tree) : Type 0 where
  choices : Cases
  first : f ≡ select choices
  right : r ≡ select (each_case_beside choices s)
  few : AreFew S (conditions choices)
  exhaustive : IsExhaustive (environment S) (conditions choices)

selection : (S : List (Name × Kind)) (f s r : Tree) (place : List ℕ) → ParIf S place (par (two f s)) r → Selection S f s r
selection S f s r place (par_if cs q few h) = record { choices = cs; first = refl; right = refl; few = few; exhaustive = h }

selected : (S : List (Name × Kind)) (l r f s : Tree) → l ≡ par (two f s) → (place : List ℕ) × ParIf S place l r → Selection S f s r
selected S l r f s e k = selection S f s r k.0 (subst (λ z. ParIf S k.0 z r) e k.1)

inner : (cs ds : Cases) → select cs ≡ select ds → cs ≡ ds
inner cs ds e = cc

-- par-if where each choice is in its place and some condition is always true
pub if_law : (S : List (Name × Kind)) (l r f s : Tree) (cs ds : Cases) (b : Bool) → l ≡ par (two f s) → f ≡ select cs → r ≡ select ds
    → ds ≡ each_choice (λ b. b) (λ p. par (two p s)) cs → (IsTrue b ↔ (AreFew S (conditions cs) × IsExhaustive (environment S) (conditions cs)))
    → IsTrue b ↔ ((place : List ℕ) × ParIf S place l r)
if_law S l r f s cs ds b e g h made test = (
  (λ t. let u = test.0 t in (
    [],
    subst (λ z. ParIf S [] z r) (sym (e ∙ ap (λ z. par (two z s)) g))
        (subst (λ z. ParIf S [] (par (two (select cs) s)) z) (sym (h ∙ ap select (made ∙ pieces cs s))) (par_if cs s u.0 u.1)),
  )),
  (λ k. let x = selected S l r f s e k in
      let same : x.choices ≡ cs = inner x.choices cs (sym x.first ∙ g) in
      test.1 (subst (λ z. AreFew S (conditions z) × IsExhaustive (environment S) (conditions z)) same (x.few, x.exhaustive))),
)

-- it doesn't hold where some choice isn't
pub if_never : (S : List (Name × Kind)) (l r f s : Tree) (cs ds : Cases) → l ≡ par (two f s) → f ≡ select cs → r ≡ select ds
    → (ds ≡ each_choice (λ b. b) (λ p. par (two p s)) cs → ⊥) → (place : List ℕ) × ParIf S place l r → ⊥
if_never S l r f s cs ds e g h never k =
    let x = selected S l r f s e k in
    let same : x.choices ≡ cs = inner x.choices cs (sym x.first ∙ g) in
    never (inner ds (each_case_beside x.choices s) (sym h ∙ x.right) ∙ ap (λ z. each_case_beside z s) same ∙ sym (pieces cs s))
