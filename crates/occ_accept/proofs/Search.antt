use Rattle.std.proofs.Common.{◌≡◌, ◌<◌, ◌≤◌, ◌+◌, ℕ, zero, suc, true, false, List, [], ◌∷◌, length, get_or, Result, Ok, Err, sym, ap, ◌∙◌, subst, ⊎_elim, arith}
use Rattle.std.proofs.lemmas.Bool.{and_parts, cases_lt}
use Rattle.std.proofs.lemmas.List.Folds.{list_any_at, list_any_none}
use Rattle.std.proofs.lemmas.List.Sorted.{searchable_from_sorted}
use Rattle.std.specs.List.{list_all, list_any, HoldsAt}
use Rattle.std.specs.List.Sorted.{IsBinarySearchResult, IsSearchInRange, IsSortedBy, IsPartitionPoint}
use Rattle.std.specs.Result.{is_ok}
use Rattle.std.specs.Cmp.{IsTotalOrder, tied_back}
use Rattle.std.specs.Ordering.{is_lt, is_eq, eq_by_cmp, ordering_reverse}
use Rattle.std.specs.declared.cmp.Ordering.{Ordering}
use Rattle.std.specs.declared.cmp.Ordering.TheVariants.{Less, Equal, Greater}
use Rattle.occ_accept.specs.Order.{strict}
use Rattle.occ_accept.proofs.Strict.{less_is}

-- What a binary search finds in a list that increases strictly by a key.

module _ {X A : Type 0} {R : A → A → Ordering} (o : IsTotalOrder R) (key : X → A) where
  abbrev by_key : X → X → Ordering
  by_key a b = R (key a) (key b)

  not_back : (a b : A) → is_lt (R a b) ≡ true → is_lt (R b a) ≡ false
  not_back a b h = ap is_lt (o.antisymm b a ∙ ap ordering_reverse (less_is (R a b) h))

  strict_sorted : (xs : List X) → strict by_key xs ≡ true → IsSortedBy (λ a b. is_lt (by_key a b)) xs
  strict_sorted [] h k d low high = absurd (omega arith)
  strict_sorted (x ∷ []) h k d low high = absurd (omega arith)
  strict_sorted (x ∷ (y ∷ ys)) h zero d low high =
      let p = and_parts (list_all (λ z. is_lt (by_key x z)) (y ∷ ys)) (strict by_key (y ∷ ys)) h in
      let q = and_parts (is_lt (by_key x y)) (list_all (λ z. is_lt (by_key x z)) ys) p.0 in
      not_back (key x) (key y) q.0
  strict_sorted (x ∷ (y ∷ ys)) h (suc k) d low high =
      let p = and_parts (list_all (λ z. is_lt (by_key x z)) (y ∷ ys)) (strict by_key (y ∷ ys)) h in
      let e : suc (k + 1) ≡ suc k + 1 = omega arith in
      subst (λ (n : ℕ). is_lt (by_key (get_or (x ∷ (y ∷ ys)) n d) (get_or (y ∷ ys) k d)) ≡ false) e (strict_sorted (y ∷ ys) p.1 k d (omega arith) (omega arith))

  found_here : (x : A) (xs : List X) (i : ℕ) → i < length xs → HoldsAt (λ y. R (key y) x ≡ Equal) xs i → list_any (λ y. eq_by_cmp R x (key y)) xs ≡ true
  found_here x [] i h at = absurd (omega arith)
  found_here x (y ∷ ys) i h at = list_any_at (λ y. eq_by_cmp R x (key y)) (y ∷ ys) i y h (ap is_eq (tied_back o (key (get_or (y ∷ ys) i y)) x (at y)))

  less-not : (x y : A) → R y x ≡ Less → eq_by_cmp R x y ≡ false
  less-not x y h = ap is_eq (o.antisymm x y ∙ ap ordering_reverse h)

  greater-not : (x y : A) → R y x ≡ Greater → eq_by_cmp R x y ≡ false
  greater-not x y h = ap is_eq (o.antisymm x y ∙ ap ordering_reverse h)

  found_nowhere : (x : A) (xs : List X) (i : ℕ) → IsPartitionPoint (λ y. R (key y) x ≡ Less) (λ y. R (key y) x ≡ Greater) xs i → list_any (λ y. eq_by_cmp R x (key y)) xs ≡ false
  found_nowhere x xs i parts = list_any_none (λ y. eq_by_cmp R x (key y)) xs (λ k d h. ⊎_elim
      (λ (l : k < i). less-not x (key (get_or xs k d)) (parts.0 k d (omega arith) l))
      (λ (l : i ≤ k). greater-not x (key (get_or xs k d)) (parts.1 k d l h))
      (cases_lt k i))

  pub searched : (xs : List X) (x : A) (r : Result ℕ ℕ) → IsSearchInRange r (length xs) → IsBinarySearchResult (λ y. R (key y) x) xs r → strict by_key xs ≡ true
      → is_ok r ≡ list_any (λ y. eq_by_cmp R x (key y)) xs
  searched xs x (Ok i) range found h = sym (found_here x xs i range found)
  searched xs x (Err i) range found h = sym (found_nowhere x xs i (found (searchable_from_sorted o key xs x (strict_sorted xs h))))
