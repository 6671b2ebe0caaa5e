-- A test that holds for no list of values holds at none, and the values that indices in scope have.
use Rattle.std.proofs.Common.{◌≡◌, refl, ap, sym, ◌∙◌, subst, Bool, true, false, ◌==◌, ◌+◌, ◌≤◌, ◌<◌, zero, suc, arith, Option, Some, None, List, [], ◌∷◌, inl, inr, ℕ}
use Rattle.std.specs.List.{list_any}
use Rattle.std.proofs.lemmas.Bool.{or_parts, or_cases, cases_Bool, eqb-true}
use Rattle.occ_meaning.proofs.Facts.{none_not_some, true_not_false, false_not_true, some_is, if_true, if_false}
use Rattle.occ_parse_forms.specs.declared.form.Declared.{Declared}
use Rattle.occ_parse_forms.specs.declared.form.Declared.TheVariants as declared
use Rattle.occ_parse_rules.specs.declared.sort.Sort.{Sort}
use Rattle.occ_parse_rules.specs.declared.sort.Sort.TheVariants as sort
use Rattle.occ_parse_rules.specs.Places.{Sorts, Indices, sort_at, declares, values_of, numbers_from, with_index, taken_by, for_some}
use Rattle.occ_parse_rules.specs.Types.{greatest}
use Rattle.occ_parse_rules.specs.Agreement.{IsTaken, at_first, behind_name, behind_index, is_counter_sort}

-- a test that holds of no element doesn't hold of one that is there
absent : (test : ℕ → Bool) (v : ℕ) (vs : List ℕ) → list_any (λ u. v == u) vs ≡ true → list_any test vs ≡ false → test v ≡ false
absent test v [] here none = false_not_true here
absent test v (u ∷ us) here none =
    let parts = or_parts (test u) (list_any test us) none in
    elim (or_cases (v == u) (list_any (λ w. v == w) us) here) [
      | inl k ↦ subst (λ w. test w ≡ false) (sym (eqb-true v u k)) parts.0
      | inr k ↦ absent test v us k parts.1
    ]

taken_by_name : (d : Declared) (s : Sort) (test : Indices → Bool) (ρ : Indices) → is_counter_sort s ≡ false → taken_by d s test ρ ≡ test ρ
taken_by_name (declared.Plain i) (sort.Variable width) test ρ h = refl
taken_by_name (declared.Plain i) (sort.Channel width mark) test ρ h = refl
taken_by_name (declared.Plain i) (sort.Counter b n) test ρ h = true_not_false h
taken_by_name (declared.Element i k) s test ρ h = refl
taken_by_name (declared.Array i n) s test ρ h = refl

-- no fault for any list of values: none at a copy
pub none_taken : (Γ : Sorts) (test : Indices → Bool) (ρ : Indices) → IsTaken Γ ρ → for_some Γ test ≡ false → test ρ ≡ false
none_taken Γ test ρ at_first h = h
none_taken Γ test ρ (behind_name {entry = entry} {Γ = Δ} s t) h =
    sym (taken_by_name entry.declared entry.sort test ρ s) ∙ none_taken Δ (taken_by entry.declared entry.sort test) ρ t h
none_taken Γ test ρ (behind_index {Γ = Δ} {ρ = σ} times v here t) h =
    absent (λ u. test (with_index σ times.index.0 u)) v (values_of times.base times.count) here
    (none_taken Δ (taken_by (declared.Plain times.index) (sort.Counter times.base times.count) test) σ t h)

-- ---- the value of an index

from_most : (v b n : ℕ) → list_any (λ u. v == u) (numbers_from b n) ≡ true → v < b + n
from_most v b zero h = false_not_true h
from_most v b (suc n) h = elim (or_cases (v == b) (list_any (λ u. v == u) (numbers_from (b + 1) n)) h) [
  | inl k ↦ omega (arith, eqb-true v b k)
  | inr k ↦ omega (arith, from_most v (b + 1) n k)
]

values_most : (v b n : ℕ) → list_any (λ u. v == u) (values_of b n) ≡ true → v ≤ greatest b n
values_most v b zero h = elim (or_cases (v == b) false h) [ inl k ↦ omega (arith, eqb-true v b k) | inr k ↦ false_not_true k ]
values_most v b (suc n) h = omega (arith, from_most v b (suc n) h)

counted_most : (c m b n v : ℕ) → sort.Counter c m ≡ sort.Counter b n → v ≤ greatest c m → v ≤ greatest b n
counted_most c m b n v h k = let e : c ≡ b = cc in let f : m ≡ n = cc in subst (λ l. v ≤ greatest b l) f (subst (λ a. v ≤ greatest a m) e k)

-- an index in scope has one of its values, and no element is an index
pub index_most : (Γ : Sorts) (ρ : Indices) → IsTaken Γ ρ → (x : ℕ) (k : Option ℕ) (b n : ℕ) → sort_at Γ x k ≡ Some (sort.Counter b n)
    → (k ≡ None) × (ρ x ≤ greatest b n)
index_most Γ ρ at_first x k b n h = none_not_some h
index_most Γ ρ (behind_name {entry = entry} {Γ = Δ} s t) x k b n h =
    elim (cases_Bool (declares entry.declared x k)) [
      | inl e ↦ let is = some_is (sym (if_true (declares entry.declared x k) (Some entry.sort) (sort_at Δ x k) e) ∙ h) in
          true_not_false (ap is_counter_sort (sym is) ∙ s)
      | inr e ↦ index_most Δ ρ t x k b n (sym (if_false (declares entry.declared x k) (Some entry.sort) (sort_at Δ x k) e) ∙ h)
    ]
index_most Γ ρ (behind_index {Γ = Δ} {ρ = σ} times v here t) x None b n h =
    elim (cases_Bool (x == times.index.0)) [
      | inl e ↦ let is = some_is (sym (if_true (x == times.index.0) (Some (sort.Counter times.base times.count)) (sort_at Δ x None) e) ∙ h) in
          (refl, subst (λ w. w ≤ greatest b n) (sym (if_true (x == times.index.0) v (σ x) e)) (counted_most times.base times.count b n v is (values_most v times.base times.count here)))
      | inr e ↦ let deeper = index_most Δ σ t x None b n (sym (if_false (x == times.index.0) (Some (sort.Counter times.base times.count)) (sort_at Δ x None) e) ∙ h) in
          (refl, subst (λ w. w ≤ greatest b n) (sym (if_false (x == times.index.0) v (σ x) e)) deeper.1)
    ]
index_most Γ ρ (behind_index {Γ = Δ} {ρ = σ} times v here t) x (Some k) b n h =
    none_not_some (sym (index_most Δ σ t x (Some k) b n h).0)
