-- Lists that differ in expressions alone, place by place.
use Rattle.std.proofs.Common.{◌≡◌, ℕ, ◌↔◌, Bool, IsTrue, true, List, [], ◌∷◌, length, arith, refl, ap, sym, ◌∙◌, subst}
use Rattle.std.proofs.lemmas.Bool.{and_parts}
use Rattle.occ_syntax.specs.declared.expr.Expr.{Expr}
use Rattle.occ_syntax.specs.declared.expr.Guard.{Guard}
use Rattle.occ_syntax.specs.declared.proc.Proc.{Proc}
use Rattle.occ_syntax.specs.Scopes.{Environment}
use Rattle.occ_syntax.specs.Tree.{Exp, Waiting, ready, input, output, Tree, Cases, no_case, and_case, Branches, no_branch, and_branch}
use Rattle.occ_syntax.specs.Types.{agree, branches_kept, cases_kept, type_of}
use Rattle.occ_syntax.specs.View.{branches, cases, exps}
use Rattle.occ_law.specs.States.{EachEqual, no_place, and_place, WaitingEqual, equal_ready, equal_input, equal_output, CasesEqual, no_equal_case, and_equal_case, BranchesEqual, no_equal_branch, and_equal_branch}
use Rattle.occ_law_shape.specs.Types.{agree_each}
use Rattle.occ_law_shape.proofs.Typed.{branch_kept, case_kept}

-- ---- expressions

each_behind : (E : Exp → Exp → Type 0) {e f : Exp} {es fs : List Exp} → EachEqual E (e ∷ es) (f ∷ fs) → EachEqual E es fs
each_behind E (and_place h k) = k

-- behind equal expressions
pub each_step : {P : Type 0} (E : Exp → Exp → Type 0) (xs ys : List Exp) (e f : Exp) (es fs : List Exp) → xs ≡ e ∷ es → ys ≡ f ∷ fs → E e f
    → (EachEqual E xs ys ↔ P) → EachEqual E es fs ↔ P
each_step E xs ys e f es fs h k here same = (
  (λ r. same.0 (subst (λ z. EachEqual E z ys) (sym h) (subst (λ z. EachEqual E (e ∷ es) z) (sym k) (and_place here r)))),
  (λ p. each_behind E (subst (λ z. EachEqual E (e ∷ es) z) k (subst (λ z. EachEqual E z ys) h (same.1 p)))),
)

pub each_types : (Γ : Environment) (xs ys : List Exp) (e f : Exp) (es fs : List Exp) → xs ≡ e ∷ es → ys ≡ f ∷ fs → agree_each Γ xs ys ≡ true → agree_each Γ es fs ≡ true
each_types Γ xs ys e f es fs h k types =
    (and_parts (agree (type_of Γ e) (type_of Γ f)) (agree_each Γ es fs) (sym (ap (λ z. agree_each Γ z ys) h ∙ ap (agree_each Γ (e ∷ es)) k) ∙ types)).1

-- at the end of the first list
pub each_whole : {P : Type 0} (E : Exp → Exp → Type 0) (xs : List Exp) (rest : List Expr) (b : Bool) → xs ≡ [] → (EachEqual E xs (exps rest) ↔ P) → (IsTrue b ↔ (length rest ≡ 0)) → IsTrue b ↔ P
each_whole E xs rest b e same test = (
  (λ h. same.0 (subst (λ z. EachEqual E z (exps rest)) (sym e) (none_there rest (test.0 h)))),
  (λ r. test.1 (nothing rest (subst (λ z. EachEqual E z (exps rest)) e (same.1 r)))),
)
  where
    none_there : (rest : List Expr) → length rest ≡ 0 → EachEqual E [] (exps rest)
    none_there [] h = no_place
    none_there (p ∷ ps) h = absurd (omega (arith, h))

    nothing : (rest : List Expr) → EachEqual E [] (exps rest) → length rest ≡ 0
    nothing [] h = refl
    nothing (p ∷ ps) h = elim h [ ]

-- ---- what guards wait for

pub ready_waits : (E : Exp → Exp → Type 0) (v w : Waiting) → v ≡ ready → w ≡ ready → WaitingEqual E v w
ready_waits E v w h k = subst (λ z. WaitingEqual E z w) (sym h) (subst (λ z. WaitingEqual E ready z) (sym k) equal_ready)

input_variables : (E : Exp → Exp → Type 0) {c d x y : ℕ} → WaitingEqual E (input c x) (input d y) → x ≡ y
input_variables E equal_input = refl

pub input_waits : (E : Exp → Exp → Type 0) (v w : Waiting) (c d x y : ℕ) (a : Bool) → v ≡ input c x → w ≡ input d y → c ≡ d → (IsTrue a ↔ (x ≡ y)) → IsTrue a ↔ WaitingEqual E v w
input_waits E v w c d x y a h k same test = (
  (λ t. subst (λ z. WaitingEqual E z w) (sym h) (subst (λ z. WaitingEqual E (input c x) z) (ap (λ z. input z x) same ∙ ap (input d) (test.0 t) ∙ sym k) equal_input)),
  (λ r. test.1 (input_variables E (subst (λ z. WaitingEqual E (input c x) z) k (subst (λ z. WaitingEqual E z w) h r)))),
)

output_values : (E : Exp → Exp → Type 0) {c d : ℕ} {e f : Exp} → WaitingEqual E (output c e) (output d f) → E e f
output_values E (equal_output h) = h

pub output_waits : (E : Exp → Exp → Type 0) (v w : Waiting) (c d : ℕ) (e f : Exp) (a : Bool) → v ≡ output c e → w ≡ output d f → c ≡ d → (IsTrue a ↔ E e f) → IsTrue a ↔ WaitingEqual E v w
output_waits E v w c d e f a h k same test = (
  (λ t. subst (λ z. WaitingEqual E z w) (sym h) (subst (λ z. WaitingEqual E (output c e) z) (ap (λ z. output z f) same ∙ sym k) (equal_output (test.0 t)))),
  (λ r. test.1 (output_values E (subst (λ z. WaitingEqual E (output c e) z) k (subst (λ z. WaitingEqual E z w) h r)))),
)

-- ---- choices

cases_behind : (E : Exp → Exp → Type 0) {b c : Exp} {p q : Tree} {cs ds : Cases} → CasesEqual E (and_case b p cs) (and_case c q ds) → CasesEqual E cs ds
cases_behind E (and_equal_case h k) = k

-- behind equal choices
pub cases_step : {P : Type 0} (E : Exp → Exp → Type 0) (xs ys : Cases) (b c : Exp) (p q : Tree) (cs ds : Cases) → xs ≡ and_case b p cs → ys ≡ and_case c q ds → E b c → p ≡ q
    → (CasesEqual E xs ys ↔ P) → CasesEqual E cs ds ↔ P
cases_step E xs ys b c p q cs ds h k here parts same = (
  (λ r. same.0 (subst (λ z. CasesEqual E z ys) (sym h) (subst (λ z. CasesEqual E (and_case b p cs) z) (ap (λ z. and_case c z ds) parts ∙ sym k) (and_equal_case here r)))),
  (λ r. cases_behind E (subst (λ z. CasesEqual E (and_case b p cs) z) k (subst (λ z. CasesEqual E z ys) h (same.1 r)))),
)

pub cases_types : (Γ : Environment) (xs : Cases) (b : Exp) (p : Tree) (cs : Cases) → xs ≡ and_case b p cs → cases_kept xs Γ ≡ true → cases_kept cs Γ ≡ true
cases_types Γ xs b p cs h types = (case_kept Γ b p cs (sym (ap (λ z. cases_kept z Γ) h) ∙ types)).2

-- at the end of the first list
pub all_cases_equal : {P : Type 0} (E : Exp → Exp → Type 0) (xs : Cases) (rest : List (Expr × Proc)) (b : Bool) → xs ≡ no_case → (CasesEqual E xs (cases rest) ↔ P) → (IsTrue b ↔ (length rest ≡ 0)) → IsTrue b ↔ P
all_cases_equal E xs rest b e same test = (
  (λ h. same.0 (subst (λ z. CasesEqual E z (cases rest)) (sym e) (none_there rest (test.0 h)))),
  (λ r. test.1 (nothing rest (subst (λ z. CasesEqual E z (cases rest)) e (same.1 r)))),
)
  where
    none_there : (rest : List (Expr × Proc)) → length rest ≡ 0 → CasesEqual E no_case (cases rest)
    none_there [] h = no_equal_case
    none_there (p ∷ ps) h = absurd (omega (arith, h))

    nothing : (rest : List (Expr × Proc)) → CasesEqual E no_case (cases rest) → length rest ≡ 0
    nothing [] h = refl
    nothing (p ∷ ps) h = elim h [ ]

-- ---- branches

branches_behind : (E : Exp → Exp → Type 0) {b c : Exp} {v w : Waiting} {p q : Tree} {gs hs : Branches} → BranchesEqual E (and_branch b v p gs) (and_branch c w q hs) → BranchesEqual E gs hs
branches_behind E (and_equal_branch h j k) = k

-- behind equal branches
pub branches_step : {P : Type 0} (E : Exp → Exp → Type 0) (xs ys : Branches) (b c : Exp) (v w : Waiting) (p q : Tree) (gs hs : Branches) → xs ≡ and_branch b v p gs → ys ≡ and_branch c w q hs
    → E b c → WaitingEqual E v w → p ≡ q → (BranchesEqual E xs ys ↔ P) → BranchesEqual E gs hs ↔ P
branches_step E xs ys b c v w p q gs hs h k here waits parts same = (
  (λ r. same.0 (subst (λ z. BranchesEqual E z ys) (sym h) (subst (λ z. BranchesEqual E (and_branch b v p gs) z) (ap (λ z. and_branch c w z hs) parts ∙ sym k) (and_equal_branch here waits r)))),
  (λ r. branches_behind E (subst (λ z. BranchesEqual E (and_branch b v p gs) z) k (subst (λ z. BranchesEqual E z ys) h (same.1 r)))),
)

pub branches_types : (Γ : Environment) (xs : Branches) (b : Exp) (w : Waiting) (p : Tree) (gs : Branches) → xs ≡ and_branch b w p gs → branches_kept xs Γ ≡ true → branches_kept gs Γ ≡ true
branches_types Γ xs b w p gs h types = (branch_kept Γ b w p gs (sym (ap (λ z. branches_kept z Γ) h) ∙ types)).3

-- at the end of the first list
pub all_branches_equal : {P : Type 0} (E : Exp → Exp → Type 0) (xs : Branches) (rest : List (Guard × Proc)) (b : Bool) → xs ≡ no_branch → (BranchesEqual E xs (branches rest) ↔ P)
    → (IsTrue b ↔ (length rest ≡ 0)) → IsTrue b ↔ P
all_branches_equal E xs rest b e same test = (
  (λ h. same.0 (subst (λ z. BranchesEqual E z (branches rest)) (sym e) (none_there rest (test.0 h)))),
  (λ r. test.1 (nothing rest (subst (λ z. BranchesEqual E z (branches rest)) e (same.1 r)))),
)
  where
    none_there : (rest : List (Guard × Proc)) → length rest ≡ 0 → BranchesEqual E no_branch (branches rest)
    none_there [] h = no_equal_branch
    none_there (p ∷ ps) h = absurd (omega (arith, h))

    nothing : (rest : List (Guard × Proc)) → BranchesEqual E no_branch (branches rest) → length rest ≡ 0
    nothing [] h = refl
    nothing (p ∷ ps) h = elim h [ ]
