-- From the places that were looked at to the direct result.
use Rattle.std.proofs.Common.{◌≡◌, ◌∙◌, ℕ, ◌<◌, ◌≤◌, ◌==◌, ◌&&◌, ◌||◌, ◌+◌, ◌⊎◌, inl, inr, arith, Bool, true, false, nat_lt, List, [], ◌∷◌, Option, None, Some, Result, IfOk, refl, sym, ap, subst}
use Rattle.std.proofs.lemmas.Bool.{eqb-true, ltb-false, ltb-true}
use Rattle.std.proofs.lemmas.Result.{IfOk-weaker}
use Rattle.occ_syntax.specs.occ_base.declared.memory.Memory.{Memory}
use Rattle.occ_syntax.specs.occ_base.declared.names.Name.{Name}
use Rattle.occ_law_alt.specs.occ_law.declared.place.Place.TheVariants.{Whole}
use Rattle.occ_law_alt.specs.occ_law.RuleTable.{IsChange, is_before}
use Rattle.occ_syntax.specs.declared.proc.Proc.{Proc}
use Rattle.occ_syntax.specs.declared.scope.Kind.{Kind}
use Rattle.occ_syntax.specs.Tree.{Tree}
use Rattle.occ_law_any.specs.Changes.{IsChangeAt, IsDirectResult, IsFirstBehind, IsFirstBetween, IsFirstMore, IsUnchanged}
use Rattle.occ_law_alt.specs.occ_law.Numbers.{lists_of}
use Rattle.occ_law_any.specs.Places.{breadth_of}
use Rattle.occ_law_any.proofs.Placing.{IsPlaced, placed}

-- a number below the next one is below this one, or it is this one
below_next : (h i : ℕ) → h < i + 1 → (h < i) ⊎ (h ≡ i)
below_next h i e = by_test (nat_lt h i) refl
  where
    by_test : (b : Bool) → nat_lt h i ≡ b → (h < i) ⊎ (h ≡ i)
    by_test true t = inl (ltb-true h i t)
    by_test false t = let other = ltb-false h i t in inr (omega (arith, e, other))

-- ---- lists behind which nothing was found

pub none_more : (n : ℕ) (S : List (Name × Kind)) (l : Tree) (i most : ℕ) (found : Option Proc) → ((p : Proc) → found ≡ Some p → ⊥) → IsFirstMore n S l i most found
    → (k : ℕ) → k ≤ most → IsUnchanged n S l (i ∷ k ∷ [])
none_more n S l i most None never h = h
none_more n S l i most (Some p) never h = absurd (never p refl)

-- nothing so far, and nothing behind one item more
pub one_more : (n : ℕ) (S : List (Name × Kind)) (l : Tree) (i most : ℕ) → ((h k : ℕ) → h < i → k ≤ most → IsUnchanged n S l (h ∷ k ∷ []))
    → ((k : ℕ) → k ≤ most → IsUnchanged n S l (i ∷ k ∷ [])) → (h k : ℕ) → h < i + 1 → k ≤ most → IsUnchanged n S l (h ∷ k ∷ [])
one_more n S l i most so_far here h k below within = by_case (below_next h i below)
  where
    by_case : (h < i) ⊎ (h ≡ i) → IsUnchanged n S l (h ∷ k ∷ [])
    by_case (inl less) = so_far h k less within
    by_case (inr same) = subst (λ z. IsUnchanged n S l (z ∷ k ∷ [])) (sym same) (here k within)

-- at the end: what stands behind all items
pub last_more : (n : ℕ) (S : List (Name × Kind)) (l : Tree) (i most : ℕ) → i ≡ most → ((h k : ℕ) → h < i → k ≤ most → IsUnchanged n S l (h ∷ k ∷ []))
    → (found : Result (Option Proc) Memory) → IfOk found (IsFirstMore n S l most most) → IfOk found (IsFirstBetween n S l most)
last_more n S l i most at_end so_far found = IfOk-weaker found _ _ last
  where
    earlier : (h k : ℕ) → h < most → k ≤ most → IsUnchanged n S l (h ∷ k ∷ [])
    earlier h k less within = so_far h k (subst (λ z. h < z) (sym at_end) less) within

    last : (o : Option Proc) → IsFirstMore n S l most most o → IsFirstBetween n S l most o
    last (Some p) h = (most, h, earlier)
    last None h = λ a k below within. one_more n S l most most earlier h a k (omega (arith, below)) within

-- ---- the direct result

-- a law that changes a part as a whole
pub as_whole : (n : ℕ) (S : List (Name × Kind)) (l : Tree) → lists_of n ≡ 0 → (found : Result (Option Proc) Memory)
    → IfOk found (IsChangeAt n S l Whole) → IfOk found (IsDirectResult n S l)
as_whole n S l lists found = IfOk-weaker found _ _ whole
  where
    here : (ks : List ℕ) (r : Tree) → IsChange n S ks l r → ks ≡ []
    here ks r c = subst (λ m. IsPlaced m l ks) lists (placed n S ks l r c.sides)

    none_before : (ks : List ℕ) → ks ≡ [] → is_before ks [] ≡ false
    none_before ks e = ap (λ z. is_before z []) e

    whole : (o : Option Proc) → IsChangeAt n S l Whole o → IsDirectResult n S l o
    whole None h = λ r d. h r (subst (λ z. IsChange n S z l r) (here d.place r d.change) d.change)
    whole (Some p) h = record { place = []; change = h; least = λ other q c. none_before other (here other q c) }

not_less : (j k : ℕ) → (j < k → ⊥) → is_before (j ∷ []) (k ∷ []) ≡ false
not_less j k never = by_test (nat_lt j k) refl (j == k)
  where
    by_test : (b : Bool) → nat_lt j k ≡ b → (c : Bool) → (b || (c && false)) ≡ false
    by_test true t c = absurd (never (ltb-true j k t))
    by_test false t true = refl
    by_test false t false = refl

-- a law with one list in front of its place
pub behind_one : (n : ℕ) (S : List (Name × Kind)) (l : Tree) (most : ℕ) → lists_of n ≡ 1 → most ≡ breadth_of l → (found : Result (Option Proc) Memory)
    → IfOk found (IsFirstBehind n S l most) → IfOk found (IsDirectResult n S l)
behind_one n S l most lists all found = IfOk-weaker found _ _ first
  where
    here : (ks : List ℕ) (r : Tree) → IsChange n S ks l r → IsPlaced 1 l ks
    here ks r c = subst (λ m. IsPlaced m l ks) lists (placed n S ks l r c.sides)

    never : ((k : ℕ) → k ≤ most → IsUnchanged n S l (k ∷ [])) → (ks : List ℕ) (r : Tree) → IsChange n S ks l r → IsPlaced 1 l ks → ⊥
    never h ks r c at = h at.0 (subst (λ z. at.0 ≤ z) (sym all) at.2) r (subst (λ z. IsChange n S z l r) at.1 c)

    least : (k : ℕ) → ((j : ℕ) → j < k → IsUnchanged n S l (j ∷ [])) → (ks : List ℕ) (r : Tree) → IsChange n S ks l r → IsPlaced 1 l ks → is_before ks (k ∷ []) ≡ false
    least k h ks r c at = ap (λ z. is_before z (k ∷ [])) at.1 ∙ not_less at.0 k (λ less. h at.0 less r (subst (λ z. IsChange n S z l r) at.1 c))

    first : (o : Option Proc) → IsFirstBehind n S l most o → IsDirectResult n S l o
    first None h = λ r d. never h d.place r d.change (here d.place r d.change)
    first (Some p) h = record { place = h.0 ∷ []; change = h.1; least = λ other q c. least h.0 h.2 other q c (here other q c) }

not_less_pair : (h j i k : ℕ) → (h < i → ⊥) → (h ≡ i → j < k → ⊥) → is_before (h ∷ j ∷ []) (i ∷ k ∷ []) ≡ false
not_less_pair h j i k never neither = by_test (nat_lt h i) refl (h == i) refl
  where
    by_test : (b : Bool) → nat_lt h i ≡ b → (c : Bool) → (h == i) ≡ c → (b || (c && is_before (j ∷ []) (k ∷ []))) ≡ false
    by_test true t c e = absurd (never (ltb-true h i t))
    by_test false t true e = not_less j k (neither (eqb-true h i e))
    by_test false t false e = refl

-- a law with two lists in front of its place
pub behind_two : (n : ℕ) (S : List (Name × Kind)) (l : Tree) (most : ℕ) → lists_of n ≡ 2 → most ≡ breadth_of l → (found : Result (Option Proc) Memory)
    → IfOk found (IsFirstBetween n S l most) → IfOk found (IsDirectResult n S l)
behind_two n S l most lists all found = IfOk-weaker found _ _ first
  where
    here : (ks : List ℕ) (r : Tree) → IsChange n S ks l r → IsPlaced 2 l ks
    here ks r c = subst (λ m. IsPlaced m l ks) lists (placed n S ks l r c.sides)

    within : (k : ℕ) → k ≤ breadth_of l → k ≤ most
    within k below = subst (λ z. k ≤ z) (sym all) below

    never : ((i k : ℕ) → i ≤ most → k ≤ most → IsUnchanged n S l (i ∷ k ∷ [])) → (ks : List ℕ) (r : Tree) → IsChange n S ks l r → IsPlaced 2 l ks → ⊥
    never h ks r c at = h at.0 at.1 (within at.0 at.3) (within at.1 at.4) r (subst (λ z. IsChange n S z l r) at.2 c)

    least : (i k : ℕ) → ((j : ℕ) → j < k → IsUnchanged n S l (i ∷ j ∷ [])) → ((h j : ℕ) → h < i → j ≤ most → IsUnchanged n S l (h ∷ j ∷ []))
        → (ks : List ℕ) (r : Tree) → IsChange n S ks l r → IsPlaced 2 l ks → is_before ks (i ∷ k ∷ []) ≡ false
    least i k inner outer ks r c at = ap (λ z. is_before z (i ∷ k ∷ [])) at.2 ∙ not_less_pair at.0 at.1 i k
        (λ less. outer at.0 at.1 less (within at.1 at.4) r (subst (λ z. IsChange n S z l r) at.2 c))
        (λ same less. inner at.1 less r (subst (λ z. IsChange n S (z ∷ at.1 ∷ []) l r) same (subst (λ z. IsChange n S z l r) at.2 c)))

    first : (o : Option Proc) → IsFirstBetween n S l most o → IsDirectResult n S l o
    first None h = λ r d. never h d.place r d.change (here d.place r d.change)
    first (Some p) h = record { place = h.0 ∷ h.1.0 ∷ []; change = h.1.1; least = λ other q c. least h.0 h.1.0 h.1.2 h.2 other q c (here other q c) }
