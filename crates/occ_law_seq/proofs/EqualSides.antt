-- expr by the form of the two parts.
use Rattle.std.proofs.Common.{◌≡◌, ℕ, ◌==◌, ◌↔◌, Bool, true, false, true≢false, not, List, [], refl, ap, sym, ◌∙◌, subst}
use Rattle.std.proofs.lemmas.Bool.{and_parts, eqb-true}
use Rattle.occ_syntax.specs.occ_base.declared.names.Name.{Name}
use Rattle.occ_syntax.specs.declared.scope.Kind.{Kind}
use Rattle.occ_syntax.specs.Scopes.{Environment}
use Rattle.occ_syntax.specs.Tree.{Exp, Tree, assign, send, select, alt, Cases, Branches}
use Rattle.occ_syntax.specs.Types.{is_pair, pairs_kept, types_kept}
use Rattle.occ_law_shape.specs.occ_law.Sequence.{ExprEqual, expr_in_alt, expr_in_assignment, expr_in_if, expr_in_output}
use Rattle.occ_law_shape.specs.occ_law.States.{BranchesEqual, CasesEqual, EachEqual, IsEqualAlways}
use Rattle.occ_law_shape.proofs.Typed.{pairs_agree}
use Rattle.occ_law_shape.specs.Types.{agree_each}

-- ---- two assignments

pairs_typed : (Γ : Environment) (l : Tree) (xs : List ℕ) (es : List Exp) → assign xs es ≡ l → types_kept l Γ ≡ true → pairs_kept Γ xs es ≡ true
pairs_typed Γ l xs es e h = (and_parts (is_pair xs) (pairs_kept Γ xs es) (ap (λ z. types_kept z Γ) e ∙ h)).1

-- right sides in one place have one type
pub right_sides_agree : (Γ : Environment) (l r : Tree) (xs ys : List ℕ) (es fs : List Exp) → assign xs es ≡ l → assign ys fs ≡ r → xs ≡ ys → types_kept l Γ ≡ true → types_kept r Γ ≡ true
    → agree_each Γ es fs ≡ true
right_sides_agree Γ l r xs ys es fs e g same h k = pairs_agree Γ xs es fs (pairs_typed Γ l xs es e h) (ap (λ z. pairs_kept Γ z fs) same ∙ pairs_typed Γ r ys fs g k)

record InAssignments (S : List (Name × Kind)) (xs ys : List ℕ) (es fs : List Exp) : Type 0 where
  vars : xs ≡ ys
  values : EachEqual (IsEqualAlways S) es fs

assign_to : (S : List (Name × Kind)) (l r : Tree) (place : List ℕ) → ExprEqual S place l r → (xs ys : List ℕ) (es fs : List Exp) → assign xs es ≡ l → assign ys fs ≡ r → InAssignments S xs ys es fs
assign_to S l r place (expr_in_assignment us vs ws k) xs ys es fs e g =
    let a : us ≡ xs = cc in
    let b : us ≡ ys = cc in
    let c : vs ≡ es = cc in
    let d : ws ≡ fs = cc in
    record { vars = sym a ∙ b; values = subst (λ z. EachEqual (IsEqualAlways S) z fs) c (subst (λ z. EachEqual (IsEqualAlways S) vs z) d k) }
assign_to S l r place (expr_in_output c x y k) xs ys es fs e g = cc
assign_to S l r place (expr_in_if cs ds k) xs ys es fs e g = cc
assign_to S l r place (expr_in_alt gs hs k) xs ys es fs e g = cc

-- expr where the variables are the same, and the right sides are equal place by place
pub expr_assign : (S : List (Name × Kind)) (l r : Tree) (xs ys : List ℕ) (es fs : List Exp) → assign xs es ≡ l → assign ys fs ≡ r → xs ≡ ys
    → EachEqual (IsEqualAlways S) es fs ↔ ((place : List ℕ) × ExprEqual S place l r)
expr_assign S l r xs ys es fs e g same = (
  (λ h. ([], subst (λ z. ExprEqual S [] z r) e (subst (λ z. ExprEqual S [] (assign xs es) z) (ap (λ z. assign z fs) same ∙ g) (expr_in_assignment xs es fs h)))),
  (λ k. (assign_to S l r k.0 k.1 xs ys es fs e g).values),
)

-- ---- two outputs

record InOutputs (S : List (Name × Kind)) (c d : ℕ) (x y : Exp) : Type 0 where
  chan : c ≡ d
  value : IsEqualAlways S x y

output_to : (S : List (Name × Kind)) (l r : Tree) (place : List ℕ) → ExprEqual S place l r → (c d : ℕ) (x y : Exp) → send c x ≡ l → send d y ≡ r → InOutputs S c d x y
output_to S l r place (expr_in_output b u v k) c d x y e g =
    let m : b ≡ c = cc in
    let n : b ≡ d = cc in
    let i : u ≡ x = cc in
    let j : v ≡ y = cc in
    record { chan = sym m ∙ n; value = subst (λ z. IsEqualAlways S z y) i (subst (λ z. IsEqualAlways S u z) j k) }
output_to S l r place (expr_in_assignment us vs ws k) c d x y e g = cc
output_to S l r place (expr_in_if cs ds k) c d x y e g = cc
output_to S l r place (expr_in_alt gs hs k) c d x y e g = cc

-- expr where the channels are the same, and the values are equal
pub expr_output : (S : List (Name × Kind)) (l r : Tree) (c d : ℕ) (x y : Exp) → send c x ≡ l → send d y ≡ r → c ≡ d
    → IsEqualAlways S x y ↔ ((place : List ℕ) × ExprEqual S place l r)
expr_output S l r c d x y e g same = (
  (λ h. ([], subst (λ z. ExprEqual S [] z r) e (subst (λ z. ExprEqual S [] (send c x) z) (ap (λ z. send z y) same ∙ g) (expr_in_output c x y h)))),
  (λ k. (output_to S l r k.0 k.1 c d x y e g).value),
)

-- ---- two IFs, two ALTs

if_to : (S : List (Name × Kind)) (l r : Tree) (place : List ℕ) → ExprEqual S place l r → (cs ds : Cases) → select cs ≡ l → select ds ≡ r → CasesEqual (IsEqualAlways S) cs ds
if_to S l r place (expr_in_if us vs k) cs ds e g =
    let a : us ≡ cs = cc in
    let b : vs ≡ ds = cc in
    subst (λ z. CasesEqual (IsEqualAlways S) z ds) a (subst (λ z. CasesEqual (IsEqualAlways S) us z) b k)
if_to S l r place (expr_in_assignment us vs ws k) cs ds e g = cc
if_to S l r place (expr_in_output c x y k) cs ds e g = cc
if_to S l r place (expr_in_alt gs hs k) cs ds e g = cc

-- expr where the conditions are equal place by place
pub expr_if : (S : List (Name × Kind)) (l r : Tree) (cs ds : Cases) → select cs ≡ l → select ds ≡ r → CasesEqual (IsEqualAlways S) cs ds ↔ ((place : List ℕ) × ExprEqual S place l r)
expr_if S l r cs ds e g = (
  (λ h. ([], subst (λ z. ExprEqual S [] z r) e (subst (λ z. ExprEqual S [] (select cs) z) g (expr_in_if cs ds h)))),
  (λ k. if_to S l r k.0 k.1 cs ds e g),
)

alt_to : (S : List (Name × Kind)) (l r : Tree) (place : List ℕ) → ExprEqual S place l r → (gs hs : Branches) → alt gs ≡ l → alt hs ≡ r → BranchesEqual (IsEqualAlways S) gs hs
alt_to S l r place (expr_in_alt us vs k) gs hs e g =
    let a : us ≡ gs = cc in
    let b : vs ≡ hs = cc in
    subst (λ z. BranchesEqual (IsEqualAlways S) z hs) a (subst (λ z. BranchesEqual (IsEqualAlways S) us z) b k)
alt_to S l r place (expr_in_assignment us vs ws k) gs hs e g = cc
alt_to S l r place (expr_in_output c x y k) gs hs e g = cc
alt_to S l r place (expr_in_if cs ds k) gs hs e g = cc

-- expr where the conditions and the values of outputs are equal place by place
pub expr_alt : (S : List (Name × Kind)) (l r : Tree) (gs hs : Branches) → alt gs ≡ l → alt hs ≡ r → BranchesEqual (IsEqualAlways S) gs hs ↔ ((place : List ℕ) × ExprEqual S place l r)
expr_alt S l r gs hs e g = (
  (λ h. ([], subst (λ z. ExprEqual S [] z r) e (subst (λ z. ExprEqual S [] (alt gs) z) g (expr_in_alt gs hs h)))),
  (λ k. alt_to S l r k.0 k.1 gs hs e g),
)

-- two numbers are the same where the test that they differ fails
pub same_unless : (b : Bool) (m n : ℕ) → b ≡ not (m == n) → b ≡ false → m ≡ n
same_unless b m n e g = eqb-true m n (turned (m == n) b e g)
  where
    turned : (a b : Bool) → b ≡ not a → b ≡ false → a ≡ true
    turned true b e g = refl
    turned false b e g = absurd (true≢false (sym e ∙ g))
