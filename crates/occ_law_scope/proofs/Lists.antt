-- Lists in the loops that go through them: the two lists that are left are the same where the whole lists are.
use Rattle.std.proofs.Common.{◌≡◌, ℕ, ◌==◌, ◌↔◌, ◌⊎◌, inl, inr, ◌≤◌, arith, Bool, IsTrue, List, [], ◌∷◌, drop, length, min, ap, refl, sym, ◌∙◌, ◌||◌}
use Rattle.std.proofs.lemmas.List.{at_drop_all}
use Rattle.std.proofs.lemmas.Bool.{cases_lt}
use Rattle.std.specs.List.{list_any}
use Rattle.occ_syntax.specs.occ_base.declared.names.Name.{Name}
use Rattle.occ_names.proofs.from_meaning.Facts.{same_turned}
use Rattle.occ_syntax.specs.declared.expr.Expr.{Expr}
use Rattle.occ_syntax.specs.declared.expr.Guard.{Guard}
use Rattle.occ_syntax.specs.declared.proc.Proc.{Proc}
use Rattle.occ_syntax.specs.Names.{is_in}
use Rattle.occ_syntax.specs.Tree.{Exp, Waiting, Tree, Branches, no_branch, and_branch}
use Rattle.occ_syntax.specs.View.{branches, exps, numbers}

-- whether a name is among some, tested from the other side
pub names_there : (ks : List Name) (n : Name) → list_any (λ (k : Name). k.0 == n.0) ks ≡ is_in (numbers ks) n.0
names_there [] n = refl
names_there (k ∷ ks) n = ap (λ b. b || list_any (λ (m : Name). m.0 == n.0) ks) (same_turned k.0 n.0) ∙ ap (λ b. (n.0 == k.0) || b) (names_there ks n)

-- ---- what is left of a list

pub no_names : (l : List Name) (i : ℕ) → length l ≤ i → numbers (drop i l) ≡ []
no_names l i h = at_drop_all numbers l i h

pub no_exps : (l : List Expr) (i : ℕ) → length l ≤ i → exps (drop i l) ≡ []
no_exps l i h = at_drop_all exps l i h

pub no_branches : (l : List (Guard × Proc)) (i : ℕ) → length l ≤ i → branches (drop i l) ≡ no_branch
no_branches l i h = at_drop_all branches l i h

-- where two lists are gone through together, one of them ends
pub one_ends : (xs : List Name) (es : List Expr) (n : ℕ) → n ≡ min (length xs) (length es) → (numbers (drop n xs) ≡ []) ⊎ (exps (drop n es) ≡ [])
one_ends xs es n h = elim (cases_lt (length xs) (length es)) [
  | inl k ↦ inl (no_names xs n (omega (arith, h, k)))
  | inr k ↦ inr (no_exps es n (omega (arith, h, k)))
]

-- a list without items, tested by its length
pub exps_none : (l : List Expr) (b : Bool) → (IsTrue b ↔ (length l ≡ 0)) → IsTrue b ↔ (exps l ≡ [])
exps_none l b test = ((λ h. there l (test.0 h)), (λ k. test.1 (back l k)))
  where
    there : (l : List Expr) → length l ≡ 0 → exps l ≡ []
    there [] h = refl
    there (e ∷ l) h = absurd (omega (arith, h))

    back : (l : List Expr) → exps l ≡ [] → length l ≡ 0
    back [] k = refl
    back (e ∷ l) k = cc

pub branches_none : (l : List (Guard × Proc)) (b : Bool) → (IsTrue b ↔ (length l ≡ 0)) → IsTrue b ↔ (branches l ≡ no_branch)
branches_none l b test = ((λ h. there l (test.0 h)), (λ k. test.1 (back l k)))
  where
    there : (l : List (Guard × Proc)) → length l ≡ 0 → branches l ≡ no_branch
    there [] h = refl
    there (g ∷ l) h = absurd (omega (arith, h))

    back : (l : List (Guard × Proc)) → branches l ≡ no_branch → length l ≡ 0
    back [] k = refl
    back (g ∷ l) k = cc

-- where the second list ends, the first one must
pub whole : {A P : Type 0} (xs ys none : A) (c : Bool) → ys ≡ none → (IsTrue c ↔ (xs ≡ none)) → ((xs ≡ ys) ↔ P) → IsTrue c ↔ P
whole xs ys none c e test same = ((λ h. same.0 (test.0 h ∙ sym e)), (λ r. test.1 (same.1 r ∙ e)))

-- ---- branches one by one

pub branches_more : {P : Type 0} (xs ys : Branches) (a b : Exp) (v w : Waiting) (p q : Tree) (gs hs : Branches) → xs ≡ and_branch a v p gs → ys ≡ and_branch b w q hs
    → (a ≡ b) × (v ≡ w) × (p ≡ q) → ((xs ≡ ys) ↔ P) → (gs ≡ hs) ↔ P
branches_more xs ys a b v w p q gs hs e f g same =
    let g0 : a ≡ b = g.0 in
    let g1 : v ≡ w = g.1 in
    let g2 : p ≡ q = g.2 in
    (λ h. same.0 (cc), λ r. let u : xs ≡ ys = same.1 r in cc)

pub branches_differ : {P : Type 0} (xs ys : Branches) (a b : Exp) (v w : Waiting) (p q : Tree) (gs hs : Branches) → xs ≡ and_branch a v p gs → ys ≡ and_branch b w q hs
    → ((a ≡ b) × (v ≡ w) × (p ≡ q) → ⊥) → ((xs ≡ ys) ↔ P) → P → ⊥
branches_differ xs ys a b v w p q gs hs e f g same r =
    let u : xs ≡ ys = same.1 r in
    let g0 : a ≡ b = cc in
    let g1 : v ≡ w = cc in
    let g2 : p ≡ q = cc in
    g (g0, g1, g2)

pub branches_end_first : {P : Type 0} (xs ys : Branches) (b : Exp) (w : Waiting) (q : Tree) (hs : Branches) → xs ≡ no_branch → ys ≡ and_branch b w q hs → ((xs ≡ ys) ↔ P) → P → ⊥
branches_end_first xs ys b w q hs e f same r = let u : xs ≡ ys = same.1 r in cc
