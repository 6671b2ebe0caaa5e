-- The elements of arrays, one by one.
use Rattle.std.proofs.Common.{◌≡◌, ℕ, zero, suc, ◌+◌, ◌-◌, ◌<◌, ◌≤◌, List, [], ◌∷◌, ◌++◌, length, get_or, drop, Some, refl, sym, ap, ◌∙◌, arith, append_assoc}
use Rattle.std.specs.List.{AllByRecursion}
use Rattle.std.proofs.lemmas.List.{drop_more, drop_all, append-nil}
use Rattle.occ_syntax.specs.occ_base.declared.names.Name.{Name}
use Rattle.occ_parse_rules.specs.Places.{elements_from}
use Rattle.occ_parse.specs.occ_parse_unroll.Elements.{with_places}
use Rattle.occ_parse.specs.occ_parse_unroll.Numbers.{number_in}
use Rattle.occ_parse.proofs.from_parse_unroll.Known.{all_at_or}
use Rattle.occ_parse_part.specs.Elements.{Elements, element_count, row_in, with_arrays, with_arrays_in, with_row}

pub count_is : element_count ≡ 256
unfolding element_count
count_is = refl

pub row_length : (t : List (List ℕ)) (x k n : ℕ) → length (row_in t x k n) ≡ n
row_length t x k zero = refl
row_length t x k (suc n) = ap suc (row_length t x (k + 1) n)

pub row_counted : (t : List (List ℕ)) (x n : ℕ) (row : List Name) → row ≡ row_in t x 0 n → length row ≡ n
row_counted t x n row h = ap length h ∙ row_length t x 0 n

-- one element more
pub row_one : (t : List (List ℕ)) (x k n m : ℕ) (name : Name) (row more : List Name) → n ≡ m + 1 → name.0 ≡ number_in t x (Some k) → more ≡ row ++ name ∷ []
    → more ++ row_in t x (k + 1) m ≡ row ++ row_in t x k n
row_one t x k n m name row more e h p =
    let two : n ≡ suc m = omega (arith, e) in
    ap (λ v. v ++ row_in t x (k + 1) m) p
    ∙ append_assoc row (name ∷ []) (row_in t x (k + 1) m)
    ∙ ap (λ a. row ++ record { 0 = a } ∷ row_in t x (k + 1) m) h
    ∙ sym (ap (λ c. row ++ row_in t x k c) two)

pub row_done : (t : List (List ℕ)) (x n k : ℕ) (row : List Name) → n ≤ k → row ++ row_in t x k (n - k) ≡ row
row_done t x n k row h =
    let none : n - k ≡ 0 = omega (arith, h) in
    ap (λ m. row ++ row_in t x k m) none ∙ append-nil row

pub places_done : (t : List (List ℕ)) (x n k : ℕ) → n ≤ k → with_places t (elements_from x k (n - k)) ≡ t
places_done t x n k h =
    let none : n - k ≡ 0 = omega (arith, h) in
    ap (λ m. with_places t (elements_from x k m)) none

-- one array more
module _ (arrays : List Name) (i : ℕ) (array z : Name) (within : i < length arrays) (is : array ≡ get_or arrays i z) where
  next : drop i arrays ≡ array ∷ drop (i + 1) arrays
  next = drop_more arrays i z within ∙ ap (λ a. a ∷ drop (i + 1) arrays) (sym is)

  pub array_more : (t : List (List ℕ)) (count : ℕ) (old new : Elements) (row : List Name) → count ≡ 256 → row ≡ row_in t array.0 0 count → new ≡ with_row old array row
      → with_arrays_in t new (drop (i + 1) arrays) ≡ with_arrays_in t old (drop i arrays)
  array_more t count old new row c r e =
      ap (λ es. with_arrays_in t es (drop (i + 1) arrays)) (e ∙ ap (with_row old array) (r ∙ ap (row_in t array.0 0) (c ∙ sym count_is)))
      ∙ sym (ap (with_arrays_in t old) next)

  pub array_table : (t u : List (List ℕ)) (count : ℕ) → count ≡ 256 → u ≡ with_places t (elements_from array.0 0 count)
      → with_arrays u (drop (i + 1) arrays) ≡ with_arrays t (drop i arrays)
  array_table t u count c e =
      ap (λ v. with_arrays v (drop (i + 1) arrays)) (e ∙ ap (λ n. with_places t (elements_from array.0 0 n)) (c ∙ sym count_is))
      ∙ sym (ap (with_arrays t) next)

pub arrays_done : (t : List (List ℕ)) (es : Elements) (arrays : List Name) (i : ℕ) → length arrays ≤ i → with_arrays_in t es (drop i arrays) ≡ es
arrays_done t es arrays i h = ap (with_arrays_in t es) (drop_all i arrays h)

pub table_done : (t : List (List ℕ)) (arrays : List Name) (i : ℕ) → length arrays ≤ i → with_arrays t (drop i arrays) ≡ t
table_done t arrays i h = ap (with_arrays t) (drop_all i arrays h)

-- a name of a list of names that are in a table
pub known_at : (n m : ℕ) (arrays : List Name) (i : ℕ) (z : Name) → AllByRecursion (λ (x : Name). x.0 < n) arrays → i < length arrays → n ≤ m → (get_or arrays i z).0 < m
known_at n m arrays i z h w le = let low : (get_or arrays i z).0 < n = all_at_or (λ (x : Name). x.0 < n) arrays i z h w in omega (arith, low, le)
