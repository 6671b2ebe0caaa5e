-- Processes that differ in expressions alone, taken apart.
use Rattle.std.proofs.Common.{◌≡◌, ℕ, ◌↔◌, Bool, IsTrue, true, List, refl, ap, sym, ◌∙◌, subst}
use Rattle.std.proofs.lemmas.Bool.{and_parts}
use Rattle.std.specs.Borrow.{Bor}
use Rattle.occ_syntax.specs.occ_base.declared.names.Name.{Name}
use Rattle.occ_syntax.specs.declared.expr.Expr.{Expr}
use Rattle.occ_syntax.specs.Scopes.{Environment}
use Rattle.occ_syntax.specs.Types.{all_types_kept, is_pair, pairs_kept, types_kept}
use Rattle.occ_syntax.specs.Tree.{Exp, Tree, assign, seq, alt, Trees, no_tree, and_tree, Branches}
use Rattle.occ_law_shape.specs.occ_law.States.{BranchesEqual, EachEqual}
use Rattle.occ_law_shape.specs.declared.form.Form.{Form}
use Rattle.occ_law_shape.specs.declared.form.Form.TheVariants as form
use Rattle.occ_law_shape.specs.Form.{form_tree}
use Rattle.occ_law_shape.specs.Types.{agree_each}
use Rattle.occ_law_shape.proofs.Typed.{pairs_agree}
use Rattle.occ_law_if.specs.Processes.{AssignmentsEqual, equal_assignments, ProcessesEqual, by_assignments, by_beginnings, by_branches}

-- ---- two assignments

sides_are : (E : Exp → Exp → Type 0) {xs ys : List ℕ} {es fs : List Exp} → AssignmentsEqual E (assign xs es) (assign ys fs) → (xs ≡ ys) × EachEqual E es fs
sides_are E (equal_assignments xs es fs h) = (refl, h)

sides_of : (E : Exp → Exp → Type 0) (l r : Tree) (xs ys : List ℕ) (es fs : List Exp) → assign xs es ≡ l → assign ys fs ≡ r → AssignmentsEqual E l r → (xs ≡ ys) × EachEqual E es fs
sides_of E l r xs ys es fs e f h = sides_are E (subst (λ z. AssignmentsEqual E (assign xs es) z) (sym f) (subst (λ z. AssignmentsEqual E z r) (sym e) h))

pub sides_test : (E : Exp → Exp → Type 0) (l r : Tree) (xs ys : List ℕ) (es fs : List Exp) (a : Bool) → assign xs es ≡ l → assign ys fs ≡ r → xs ≡ ys
    → (IsTrue a ↔ EachEqual E es fs) → IsTrue a ↔ AssignmentsEqual E l r
sides_test E l r xs ys es fs a e f same test = (
  (λ t. subst (λ z. AssignmentsEqual E z r) e (subst (λ z. AssignmentsEqual E (assign xs es) z) (ap (λ z. assign z fs) same ∙ f) (equal_assignments xs es fs (test.0 t)))),
  (λ h. test.1 (sides_of E l r xs ys es fs e f h).1),
)

pub sides_differ : (E : Exp → Exp → Type 0) (l r : Tree) (xs ys : List ℕ) (es fs : List Exp) → assign xs es ≡ l → assign ys fs ≡ r → (xs ≡ ys → ⊥) → AssignmentsEqual E l r → ⊥
sides_differ E l r xs ys es fs e f differ h = differ (sides_of E l r xs ys es fs e f h).0

-- a form that isn't an assignment stands for none
not_assign : (f : Form) → ((vars : Bor (List Name)) (values : Bor (List Expr)) → f ≡ form.Assign vars values → ⊥) → (xs : List ℕ) (es : List Exp) → form_tree f ≡ assign xs es → ⊥
not_assign (form.Assign vars values) wrong xs es e = wrong vars values refl
not_assign f wrong xs es e = cc

pub assigns_never : (E : Exp → Exp → Type 0) (f : Form) (l r : Tree) → form_tree f ≡ r → ((vars : Bor (List Name)) (values : Bor (List Expr)) → f ≡ form.Assign vars values → ⊥)
    → AssignmentsEqual E l r → ⊥
assigns_never E f l r e wrong (equal_assignments xs es fs h) = not_assign f wrong xs fs e

pairs_typed : (Γ : Environment) (l : Tree) (xs : List ℕ) (es : List Exp) → assign xs es ≡ l → types_kept l Γ ≡ true → pairs_kept Γ xs es ≡ true
pairs_typed Γ l xs es e h = (and_parts (is_pair xs) (pairs_kept Γ xs es) (ap (λ z. types_kept z Γ) e ∙ h)).1

-- right sides in one place have one type
pub sides_agree : (Γ : Environment) (l r : Tree) (xs ys : List ℕ) (es fs : List Exp) → assign xs es ≡ l → assign ys fs ≡ r → xs ≡ ys → types_kept l Γ ≡ true → types_kept r Γ ≡ true
    → agree_each Γ es fs ≡ true
sides_agree Γ l r xs ys es fs e f same h k = pairs_agree Γ xs es fs (pairs_typed Γ l xs es e h) (ap (λ z. pairs_kept Γ z fs) same ∙ pairs_typed Γ r ys fs f k)

-- ---- two SEQs

beginnings_are : (E : Exp → Exp → Type 0) {p q : Tree} {ps qs : Trees} → ProcessesEqual E (seq (and_tree p ps)) (seq (and_tree q qs)) → (ps ≡ qs) × AssignmentsEqual E p q
beginnings_are E (by_beginnings ps h) = (refl, h)
beginnings_are E (by_assignments h) = elim h [ ]

beginnings_of : (E : Exp → Exp → Type 0) (xs ys : Trees) (p q : Tree) (ps qs : Trees) → xs ≡ and_tree p ps → ys ≡ and_tree q qs → ProcessesEqual E (seq xs) (seq ys)
    → (ps ≡ qs) × AssignmentsEqual E p q
beginnings_of E xs ys p q ps qs e f h = beginnings_are E (subst (λ z. ProcessesEqual E (seq (and_tree p ps)) (seq z)) f (subst (λ z. ProcessesEqual E (seq z) (seq ys)) e h))

pub beginnings_test : (E : Exp → Exp → Type 0) (xs ys : Trees) (p q : Tree) (ps qs : Trees) (a : Bool) → xs ≡ and_tree p ps → ys ≡ and_tree q qs → ps ≡ qs
    → (IsTrue a ↔ AssignmentsEqual E p q) → IsTrue a ↔ ProcessesEqual E (seq xs) (seq ys)
beginnings_test E xs ys p q ps qs a e f same test = (
  (λ t. subst (λ z. ProcessesEqual E (seq z) (seq ys)) (sym e)
      (subst (λ z. ProcessesEqual E (seq (and_tree p ps)) (seq z)) (ap (and_tree q) same ∙ sym f) (by_beginnings ps (test.0 t)))),
  (λ h. test.1 (beginnings_of E xs ys p q ps qs e f h).1),
)

pub beginnings_differ : (E : Exp → Exp → Type 0) (xs ys : Trees) (p q : Tree) (ps qs : Trees) → xs ≡ and_tree p ps → ys ≡ and_tree q qs → (ps ≡ qs → ⊥)
    → ProcessesEqual E (seq xs) (seq ys) → ⊥
beginnings_differ E xs ys p q ps qs e f differ h = differ (beginnings_of E xs ys p q ps qs e f h).0

-- both SEQs have a part
pub begins_with_none : (E : Exp → Exp → Type 0) (xs ys : Trees) → xs ≡ no_tree → ProcessesEqual E (seq xs) (seq ys) → ⊥
begins_with_none E xs ys e h = none E (subst (λ z. ProcessesEqual E (seq z) (seq ys)) e h)
  where
    none : (E : Exp → Exp → Type 0) {us : Trees} → ProcessesEqual E (seq no_tree) (seq us) → ⊥
    none E (by_assignments h) = elim h [ ]

pub other_begins_with_none : (E : Exp → Exp → Type 0) (xs ys : Trees) → ys ≡ no_tree → ProcessesEqual E (seq xs) (seq ys) → ⊥
other_begins_with_none E xs ys e h = none E (subst (λ z. ProcessesEqual E (seq xs) (seq z)) e h)
  where
    none : (E : Exp → Exp → Type 0) {us : Trees} → ProcessesEqual E (seq us) (seq no_tree) → ⊥
    none E (by_assignments h) = elim h [ ]

-- the first part of a list that keeps types
pub first_part_kept : (Γ : Environment) (xs : Trees) (p : Tree) (ps : Trees) → xs ≡ and_tree p ps → all_types_kept xs Γ ≡ true → types_kept p Γ ≡ true
first_part_kept Γ xs p ps e h = (and_parts (types_kept p Γ) (all_types_kept ps Γ) (sym (ap (λ z. all_types_kept z Γ) e) ∙ h)).0

-- ---- two processes

assignment_only : (E : Exp → Exp → Type 0) {xs : List ℕ} {es : List Exp} {r : Tree} → ProcessesEqual E (assign xs es) r → AssignmentsEqual E (assign xs es) r
assignment_only E (by_assignments h) = h

pub assignments_test : (E : Exp → Exp → Type 0) (l r : Tree) (xs : List ℕ) (es : List Exp) (a : Bool) → assign xs es ≡ l → (IsTrue a ↔ AssignmentsEqual E l r)
    → IsTrue a ↔ ProcessesEqual E l r
assignments_test E l r xs es a e test = (
  (λ t. by_assignments (test.0 t)),
  (λ h. test.1 (subst (λ z. AssignmentsEqual E z r) e (assignment_only E (subst (λ z. ProcessesEqual E z r) (sym e) h)))),
)

pub seqs_test : (E : Exp → Exp → Type 0) (l r : Tree) (ps qs : Trees) (a : Bool) → seq ps ≡ l → seq qs ≡ r → (IsTrue a ↔ ProcessesEqual E (seq ps) (seq qs))
    → IsTrue a ↔ ProcessesEqual E l r
seqs_test E l r ps qs a e f test = subst (λ z. IsTrue a ↔ ProcessesEqual E z r) e (subst (λ z. IsTrue a ↔ ProcessesEqual E (seq ps) z) f test)

branches_only : (E : Exp → Exp → Type 0) {gs hs : Branches} → ProcessesEqual E (alt gs) (alt hs) → BranchesEqual E gs hs
branches_only E (by_branches gs hs h) = h
branches_only E (by_assignments h) = elim h [ ]

pub branches_test : (E : Exp → Exp → Type 0) (l r : Tree) (gs hs : Branches) (a : Bool) → alt gs ≡ l → alt hs ≡ r → (IsTrue a ↔ BranchesEqual E gs hs)
    → IsTrue a ↔ ProcessesEqual E l r
branches_test E l r gs hs a e f test =
    subst (λ z. IsTrue a ↔ ProcessesEqual E z r) e (subst (λ z. IsTrue a ↔ ProcessesEqual E (alt gs) z) f
    ((λ t. by_branches gs hs (test.0 t)), (λ h. test.1 (branches_only E h))))
