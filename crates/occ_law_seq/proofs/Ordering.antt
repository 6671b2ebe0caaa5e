-- The same pairs in another order: each of the first is among the second, and there are as many.
use Rattle.std.proofs.Common.{◌≡◌, ℕ, ◌+◌, ◌==◌, ◌||◌, ◌↔◌, inl, inr, arith, Bool, IsTrue, true, false, true≢false, List, [], ◌∷◌, length, refl, sym, ◌∙◌, subst}
use Rattle.std.proofs.lemmas.Bool.{eqb-true}
use Rattle.std.proofs.lemmas.Bool.Decides.{nat_tests}
use Rattle.std.proofs.lemmas.List.{length-map}
use Rattle.occ_syntax.specs.occ_base.declared.names.Name.{Name}
use Rattle.occ_syntax.specs.Names.{is_in}
use Rattle.occ_syntax.specs.Tree.{Exp, Tree, assign}
use Rattle.occ_syntax.specs.View.{numbers}
use Rattle.occ_law_shape.specs.occ_law.Lists.{PairsReordered, behind_pair, pairs_in_steps, same_pairs, two_pairs}
use Rattle.occ_law_shape.specs.occ_law.Sequence.{AssignOrder, assign_order}
use Rattle.occ_law_seq.specs.Assignment.{AreAmong, ArePairs, HasPair, HasPairs}

-- ---- from an order to the pairs

pub as_many : (xs ys : List ℕ) (es fs : List Exp) → PairsReordered xs es ys fs → length xs ≡ length ys
as_many xs ys es fs same_pairs = refl
as_many xs ys es fs (behind_pair {x = x} {e = e} {xs = us} {ys = vs} {es = ls} {fs = bs} k) = omega (arith, as_many us vs ls bs k)
as_many xs ys es fs (two_pairs {x = x} {y = y} {e = e} {f = f} {xs = us} {es = ls}) = refl
as_many xs ys es fs (pairs_in_steps {xs = us} {ys = vs} {zs = ws} {es = ls} {fs = bs} {hs = cs} k l) = as_many us vs ls bs k ∙ as_many vs ws bs cs l

still_there : (xs ys : List ℕ) (es fs : List Exp) → PairsReordered xs es ys fs → (z : ℕ) (g : Exp) → HasPair xs es z g → HasPair ys fs z g
still_there xs ys es fs same_pairs z g h = h
still_there xs ys es fs (behind_pair {x = x} {e = e} {xs = us} {ys = vs} {es = ls} {fs = bs} k) z g h = elim h [ inl j ↦ inl j | inr j ↦ inr (still_there us vs ls bs k z g j) ]
still_there xs ys es fs (two_pairs {x = x} {y = y} {e = e} {f = f} {xs = us} {es = ls}) z g h =
    elim h [ inl j ↦ inr (inl j) | inr j ↦ elim j [ inl i ↦ inl i | inr i ↦ inr (inr i) ] ]
still_there xs ys es fs (pairs_in_steps {xs = us} {ys = vs} {zs = ws} {es = ls} {fs = bs} {hs = cs} k l) z g h =
    still_there vs ws bs cs l z g (still_there us vs ls bs k z g h)

-- pairs are among pairs that have each of them
all_there : (xs ys : List ℕ) (es fs : List Exp) → ArePairs xs es → ((z : ℕ) (g : Exp) → HasPair xs es z g → HasPair ys fs z g) → AreAmong xs es ys fs
all_there [] ys [] fs h k = tt
all_there (x ∷ xs) ys (e ∷ es) fs h k = (k x e (inl (refl, refl)), all_there xs ys es fs h.1 (λ z g j. k z g (inr j)))
all_there [] ys (e ∷ es) fs h k = tt
all_there (x ∷ xs) ys [] fs h k = absurd h

-- ---- from the pairs to an order

-- pairs of which one is taken to the front, which stands there with the others
record Taken (ys : List ℕ) (fs : List Exp) (x : ℕ) (e : Exp) : Type 0 where
  vars : List ℕ
  values : List Exp
  order : PairsReordered (x ∷ vars) (e ∷ values) ys fs
  others : (z : ℕ) (g : Exp) → (z ≡ x → ⊥) → HasPair ys fs z g → HasPair vars values z g

taken : (ys : List ℕ) (fs : List Exp) (x : ℕ) (e : Exp) → HasPair ys fs x e → Taken ys fs x e
taken [] fs x e h = absurd h
taken (y ∷ ys) [] x e h = absurd h
taken (y ∷ ys) (f ∷ fs) x e h = elim h [ inl j ↦ first j.0 j.1 | inr j ↦ later (taken ys fs x e j) ]
  where
    first : y ≡ x → f ≡ e → Taken (y ∷ ys) (f ∷ fs) x e
    first j i = record {
      vars = ys;
      values = fs;
      order = subst (λ v. PairsReordered (v ∷ ys) (e ∷ fs) (y ∷ ys) (f ∷ fs)) j (subst (λ v. PairsReordered (y ∷ ys) (v ∷ fs) (y ∷ ys) (f ∷ fs)) i same_pairs);
      others = λ z g differ k. elim k [ inl n ↦ absurd (differ (sym n.0 ∙ j)) | inr n ↦ n ];
    }

    later : Taken ys fs x e → Taken (y ∷ ys) (f ∷ fs) x e
    later t = record {
      vars = y ∷ t.vars;
      values = f ∷ t.values;
      order = pairs_in_steps two_pairs (behind_pair t.order);
      others = λ z g differ k. elim k [ inl n ↦ inl n | inr n ↦ inr (t.others z g differ n) ];
    }

-- a variable that is in none of the pairs is in no pair
not_there : (xs : List ℕ) (es : List Exp) (x : ℕ) (e : Exp) → is_in xs x ≡ false → (z : ℕ) (g : Exp) → HasPair xs es z g → z ≡ x → ⊥
not_there [] es x e h z g k same = k
not_there (y ∷ ys) [] x e h z g k same = k
not_there (y ∷ ys) (f ∷ fs) x e h z g k same = elim k [
  | inl j ↦ first (x == y) (is_in ys x) h (yes (sym same ∙ sym j.0))
  | inr j ↦ not_there ys fs x e (rest (x == y) (is_in ys x) h) z g j same
]
  where
    yes : x ≡ y → (x == y) ≡ true
    yes e = grind (arith, nat_tests)

    first : (a b : Bool) → (a || b) ≡ false → a ≡ true → ⊥
    first true b u v = true≢false u
    first false b u v = true≢false (sym v)

    rest : (a b : Bool) → (a || b) ≡ false → b ≡ false
    rest true b u = absurd (true≢false u)
    rest false b u = u

among_others : (xs ys zs : List ℕ) (es fs gs : List Exp) (x : ℕ) → ArePairs xs es → is_in xs x ≡ false → AreAmong xs es ys fs
    → ((z : ℕ) (g : Exp) → (z ≡ x → ⊥) → HasPair ys fs z g → HasPair zs gs z g) → AreAmong xs es zs gs
among_others [] ys zs es fs gs x h off k still = tt
among_others (y ∷ xs) ys zs (e ∷ es) fs gs x h off k still =
    (still y e (not_there (y ∷ xs) (e ∷ es) x e off y e (inl (refl, refl))) k.0, among_others xs ys zs es fs gs x h.1 (rest (x == y) (is_in xs x) off) k.1 still)
  where
    rest : (a b : Bool) → (a || b) ≡ false → b ≡ false
    rest true b u = absurd (true≢false u)
    rest false b u = u
among_others (y ∷ xs) ys zs [] fs gs x h off k still = absurd h

pub paired_lengths : (xs : List ℕ) (es : List Exp) → ArePairs xs es → length xs ≡ length es
paired_lengths [] [] h = refl
paired_lengths (x ∷ xs) (e ∷ es) h = omega (arith, paired_lengths xs es h.1)
paired_lengths [] (e ∷ es) h = absurd h
paired_lengths (x ∷ xs) [] h = absurd h

nothing : (es : List Exp) → length es ≡ 0 → es ≡ []
nothing [] h = refl
nothing (e ∷ es) h = absurd (omega (arith, h))

no_name : (xs : List ℕ) → length xs ≡ 0 → xs ≡ []
no_name [] h = refl
no_name (x ∷ xs) h = absurd (omega (arith, h))

-- pairs of distinct variables that are all among as many others are these in another order
in_order : (xs ys : List ℕ) (es fs : List Exp) → ArePairs xs es → length fs ≡ length ys → length xs ≡ length ys → AreAmong xs es ys fs → PairsReordered xs es ys fs
in_order [] ys [] fs h long many k =
    let a : length ys ≡ 0 = omega (arith, many) in
    let b : length fs ≡ 0 = omega (arith, many, long) in
    subst (λ z. PairsReordered [] [] z fs) (sym (no_name ys a)) (subst (λ z. PairsReordered [] [] [] z) (sym (nothing fs b)) same_pairs)
in_order (x ∷ xs) ys (e ∷ es) fs h long many k =
    let t = taken ys fs x e k.0 in
    let m : 1 + length t.vars ≡ length ys = omega (arith, as_many (x ∷ t.vars) ys (e ∷ t.values) fs t.order) in
    let n : length t.values ≡ length t.vars = omega (arith, m, long, value_count (x ∷ t.vars) ys (e ∷ t.values) fs t.order) in
    pairs_in_steps (behind_pair (in_order xs t.vars es t.values h.1 n (omega (arith, m, many)) (among_others xs ys t.vars es fs t.values x h.1 h.0 k.1 t.others))) t.order
  where
    value_count : (xs ys : List ℕ) (es fs : List Exp) → PairsReordered xs es ys fs → length es ≡ length fs
    value_count xs ys es fs same_pairs = refl
    value_count xs ys es fs (behind_pair {x = x} {e = e} {xs = us} {ys = vs} {es = ls} {fs = bs} k) = omega (arith, value_count us vs ls bs k)
    value_count xs ys es fs (two_pairs {x = x} {y = y} {e = e} {f = f} {xs = us} {es = ls}) = refl
    value_count xs ys es fs (pairs_in_steps {xs = us} {ys = vs} {zs = ws} {es = ls} {fs = bs} {hs = cs} k l) = value_count us vs ls bs k ∙ value_count vs ws bs cs l
in_order [] ys (e ∷ es) fs h long many k = absurd h
in_order (x ∷ xs) ys [] fs h long many k = absurd h

-- ---- the law

order_to : (l r : Tree) (place : List ℕ) → AssignOrder place l r → (xs ys : List ℕ) (es fs : List Exp) → assign xs es ≡ l → assign ys fs ≡ r → PairsReordered xs es ys fs
order_to l r place (assign_order us vs gs hs k) xs ys es fs e g =
    let a : us ≡ xs = cc in
    let b : vs ≡ ys = cc in
    let c : gs ≡ es = cc in
    let d : hs ≡ fs = cc in
    subst (λ z. PairsReordered z es ys fs) a (subst (λ z. PairsReordered us z ys fs) c (subst (λ z. PairsReordered us gs z fs) b (subst (λ z. PairsReordered us gs vs z) d k)))

-- assign-order where there are as many pairs, and each is among the other ones
pub order_law : (l r : Tree) (xs ys : List ℕ) (es fs : List Exp) (b : Bool) → HasPairs l → HasPairs r → assign xs es ≡ l → assign ys fs ≡ r → length xs ≡ length ys
    → (IsTrue b ↔ AreAmong xs es ys fs) → IsTrue b ↔ ((place : List ℕ) × AssignOrder place l r)
order_law l r xs ys es fs b left right e g many test = (
  (λ h. (
    [],
    subst (λ z. AssignOrder [] z r) e (subst (λ z. AssignOrder [] (assign xs es) z) g
        (assign_order xs ys es fs (in_order xs ys es fs (left xs es (sym e)) (sym (paired_lengths ys fs (right ys fs (sym g)))) many (test.0 h)))),
  )),
  (λ k. test.1 (all_there xs ys es fs (left xs es (sym e)) (still_there xs ys es fs (order_to l r k.0 k.1 xs ys es fs e g)))),
)

-- there are as many pairs
pub order_never : (l r : Tree) (xs ys : List ℕ) (es fs : List Exp) → assign xs es ≡ l → assign ys fs ≡ r → (length xs ≡ length ys → ⊥) → (place : List ℕ) × AssignOrder place l r → ⊥
order_never l r xs ys es fs e g never k = never (as_many xs ys es fs (order_to l r k.0 k.1 xs ys es fs e g))

-- lists of names are as long as their numbers
pub as_long : (xs ys : List Name) → length xs ≡ length ys → length (numbers xs) ≡ length (numbers ys)
as_long xs ys e = length-map xs (λ (n : Name). n.0) ∙ e ∙ sym (length-map ys (λ (n : Name). n.0))

pub as_long_back : (xs ys : List Name) → length (numbers xs) ≡ length (numbers ys) → length xs ≡ length ys
as_long_back xs ys e = sym (length-map xs (λ (n : Name). n.0)) ∙ e ∙ length-map ys (λ (n : Name). n.0)

-- a test of lengths that failed, of what isn't so
pub unequal : {P : Type 0} (m n : ℕ) → (m ≡ n → ⊥) → (P → ⊥) → IsTrue (m == n) ↔ P
unequal m n differ wrong = ((λ h. absurd (differ (eqb-true m n h))), (λ p. absurd (wrong p)))
