-- What an item reaches by arithmetic is what it names for the values that the indices take.
use Rattle.std.specs.Prelude.{ℕ, zero, suc, ◌≡◌, ◌==◌, ◌+◌, ◌-◌, ◌<◌, ◌≤◌, Bool, true, false, ◌&&◌, ◌||◌, nat_lt, nat_le, if◌then◌else◌, List, [], ◌∷◌, map, Option, Some, None, MatchOption, is_none}
use Rattle.std.specs.List.{list_any}
use Rattle.std.proofs.Common.{refl, sym, ap, subst, ◌∙◌, inl, inr, arith}
use Rattle.std.proofs.lemmas.Bool.{eqb-true, eq-eqb, ne_eqb, leb-true, le-leb, ltb-true, lt-ltb, and_parts, and_from, or_cases, or_left, or_right, cases_lt}
use Rattle.std.proofs.lemmas.Bool.Decides.{eqb_tells}
use Rattle.occ_syntax.specs.occ_base.declared.names.Name.{Name}
use Rattle.occ_parse_forms.specs.declared.form.Item.{Item}
use Rattle.occ_parse_forms.specs.declared.phrase.Index.{Index}
use Rattle.occ_parse_forms.specs.declared.phrase.Index.TheVariants as index
use Rattle.occ_parse_rules.specs.declared.sort.Sort.{Sort}
use Rattle.occ_parse_rules.specs.declared.sort.Sort.TheVariants as sort
use Rattle.occ_parse_rules.specs.Places.{Sorts, Indices, sort_at, index_at, element_at, place_with, sort_of_place, numbers_from, values_of, for_some}
use Rattle.occ_parse_rules.specs.Names.{is_counter, index_counts, is_outside, same_place, may_meet, some_meet}
use Rattle.occ_parse_scopes.specs.declared.reach.Reach.{Reach}
use Rattle.occ_parse_scopes.specs.Taken.{index_values, is_among}
use Rattle.occ_parse_scopes.specs.Reaching.{at_least_one, counter_reach, reach_by, reach_of, reached, misses, leaves_if, same_index, meet_together, meet_apart, meets, may_meet_any, some_pair}
use Rattle.occ_parse_scopes.proofs.Facts.{false_not_true, if_false, same_truth, any_at, any_from, any_same}
use Rattle.occ_parse_scopes.proofs.Taken.{for_some_same, for_some_still, for_some_one, for_some_two, for_some_and, counter_values}

-- ---- numbers in a row

pub among_from : (v b n : ℕ) → is_among v (numbers_from b n) ≡ true → (b ≤ v) × (v < b + n)
among_from v b zero h = false_not_true h
among_from v b (suc n) h = elim (or_cases (v == b) (is_among v (numbers_from (b + 1) n)) h) [
  | inl k ↦ let e = eqb-true v b k in (omega arith, omega arith)
  | inr k ↦ let w = among_from v (b + 1) n k in (omega (arith, w.0), omega (arith, w.1))
]

pub among_to : (v b n : ℕ) → b ≤ v → v < b + n → is_among v (numbers_from b n) ≡ true
among_to v b zero h k = absurd (omega arith)
among_to v b (suc n) h k = elim (eqb_tells v b) [
  | inl e ↦ or_left (v == b) (is_among v (numbers_from (b + 1) n)) e.0
  | inr e ↦ let off = e.1 in or_right (v == b) (is_among v (numbers_from (b + 1) n)) (among_to v (b + 1) n (omega arith) (omega arith))
]

itself_at_least : (n : ℕ) → at_least_one (suc n) ≡ suc n
itself_at_least n = if_false (suc n == 0) 1 (suc n) (ne_eqb (suc n) 0 (λ e. omega arith))

values_are : (b n : ℕ) → values_of b n ≡ numbers_from b (at_least_one n)
values_are b zero = refl
values_are b (suc n) = ap (numbers_from b) (sym (itself_at_least n))

one_or_more : (n : ℕ) → 0 < at_least_one n
one_or_more zero = omega arith
one_or_more (suc n) = omega (arith, itself_at_least n)

-- a number in front of those up to an end
pub next_number : (f : ℕ → Bool) (v e : ℕ) → v < e → list_any f (numbers_from v (e - v)) ≡ (f v || list_any f (numbers_from (v + 1) (e - (v + 1))))
next_number f v e h = let k : e - v ≡ suc (e - (v + 1)) = omega arith in ap (λ n. list_any f (numbers_from v n)) k

-- ---- an index by its replicator

abbrev pub number_at : Indices → Option Name → ℕ
number_at ρ None = 0
number_at ρ (Some i) = ρ i.0

abbrev pub numbers_in : Sorts → Option Name → List ℕ
numbers_in Γ None = 0 ∷ []
numbers_in Γ (Some i) = index_values Γ i.0

-- what an item reaches is what it names, with the values that its index takes
pub record IsReach (Γ : Sorts) (x : Name) (i : Option Index) (r : Reach) : Type 0 where
  pub counts : index_counts Γ i ≡ true
  pub named : r.name ≡ x
  pub places : (ρ : Indices) → place_with ρ x.0 i ≡ element_at x.0 (reached r (number_at ρ r.index))
  pub values : numbers_in Γ r.index ≡ numbers_from r.base r.count
  pub some : 0 < r.count

some_number : (k : ℕ) → Some k ≡ (if nat_le 0 (0 + k) then Some (0 + k - 0) else None)
some_number k = if_some k (0 + k - 0) (nat_le 0 (0 + k)) (le-leb 0 (0 + k) (omega arith)) (omega arith)
  where
    if_some : (k m : ℕ) (b : Bool) → b ≡ true → m ≡ k → Some k ≡ (if b then Some m else None)
    if_some k m true h e = ap Some (sym e)
    if_some k m false h e = false_not_true h

some_more : (v k : ℕ) → Some (v + k) ≡ (if nat_le 0 (v + k) then Some (v + k - 0) else None)
some_more v k = if_some (v + k) (v + k - 0) (nat_le 0 (v + k)) (le-leb 0 (v + k) (omega arith)) (omega arith)
  where
    if_some : (k m : ℕ) (b : Bool) → b ≡ true → m ≡ k → Some k ≡ (if b then Some m else None)
    if_some k m true h e = ap Some (sym e)
    if_some k m false h e = false_not_true h

some_plain : (v : ℕ) → Some v ≡ (if nat_le 0 (v + 0) then Some (v + 0 - 0) else None)
some_plain v = let e : v + 0 ≡ v = omega arith in subst (λ w. Some w ≡ (if nat_le 0 (v + 0) then Some (v + 0 - 0) else None)) e (some_more v 0)

some_less : (v k : ℕ) → (if nat_le k v then Some (v - k) else None) ≡ (if nat_le k (v + 0) then Some (v + 0 - k) else None)
some_less v k = let e : v ≡ v + 0 = omega arith in ap (λ w. if nat_le k w then Some (w - k) else None) e

by_counter : (Γ : Sorts) (x i : Name) (idx : Index) (more less : ℕ) (o : Option Sort) → o ≡ sort_at Γ i.0 None → index_counts Γ (Some idx) ≡ is_counter o → ((ρ : Indices) → index_at ρ idx ≡ (if nat_le less (ρ i.0 + more) then Some (ρ i.0 + more - less) else None)) → MatchOption (counter_reach x i more less o) (index_counts Γ (Some idx) ≡ false) (IsReach Γ x (Some idx))
by_counter Γ x i idx more less None e c h = c
by_counter Γ x i idx more less (Some (sort.Variable width)) e c h = c
by_counter Γ x i idx more less (Some (sort.Channel width mark)) e c h = c
by_counter Γ x i idx more less (Some (sort.Counter b n)) e c h = record {
  counts = c;
  named = refl;
  places = λ ρ. ap (element_at x.0) (h ρ);
  values = counter_values Γ i.0 b n (sym e) ∙ values_are b n;
  some = one_or_more n;
}

pub reaches_by : (Γ : Sorts) (x : Name) (i : Option Index) → MatchOption (reach_by Γ x i) (index_counts Γ i ≡ false) (IsReach Γ x i)
reaches_by Γ x None = refl
reaches_by Γ x (Some (index.Number k)) = record {
  counts = refl;
  named = refl;
  places = λ ρ. ap (element_at x.0) (some_number k);
  values = refl;
  some = omega arith;
}
reaches_by Γ x (Some (index.Name i)) = by_counter Γ x i (index.Name i) 0 0 (sort_at Γ i.0 None) refl refl (λ ρ. some_plain (ρ i.0))
reaches_by Γ x (Some (index.Plus i k)) = by_counter Γ x i (index.Plus i k) k 0 (sort_at Γ i.0 None) refl refl (λ ρ. some_more (ρ i.0) k)
reaches_by Γ x (Some (index.Minus i k)) = by_counter Γ x i (index.Minus i k) 0 k (sort_at Γ i.0 None) refl refl (λ ρ. some_less (ρ i.0) k)

-- ---- tests of one item

any_only : (f : ℕ → Bool) (v : ℕ) → f v ≡ list_any f (v ∷ [])
any_only f v = or_false (f v)
  where
    or_false : (b : Bool) → b ≡ (b || false)
    or_false true = refl
    or_false false = refl

pub for_some_at : (Γ : Sorts) (o : Option Name) (f : ℕ → Bool) → for_some Γ (λ ρ. f (number_at ρ o)) ≡ list_any f (numbers_in Γ o)
for_some_at Γ None f = for_some_still Γ (f 0) ∙ any_only f 0
for_some_at Γ (Some i) f = for_some_one Γ i.0 f

by_reach : (Γ : Sorts) (x : Name) (i : Option Index) (o : Option Reach) → MatchOption o (index_counts Γ i ≡ false) (IsReach Γ x i) → (index_counts Γ i && for_some Γ (λ ρ. is_none (sort_of_place Γ (place_with ρ x.0 i)))) ≡ leaves_if Γ o
by_reach Γ x i None h = ap (λ b. b && for_some Γ (λ ρ. is_none (sort_of_place Γ (place_with ρ x.0 i)))) h
by_reach Γ x i (Some r) h =
    let name : x.0 ≡ r.name.0 = ap (λ (n : Name). n.0) (sym h.named) in
    ap (λ b. b && for_some Γ (λ ρ. is_none (sort_of_place Γ (place_with ρ x.0 i)))) h.counts
    ∙ for_some_same Γ (λ ρ. is_none (sort_of_place Γ (place_with ρ x.0 i))) (λ ρ. misses Γ r (number_at ρ r.index)) (λ ρ t. ap (λ p. is_none (sort_of_place Γ p)) (h.places ρ ∙ ap (λ n. element_at n (reached r (number_at ρ r.index))) name))
    ∙ for_some_at Γ r.index (misses Γ r)
    ∙ ap (list_any (misses Γ r)) h.values

pub outside_is : (Γ : Sorts) (i : Item) → is_outside Γ i ≡ leaves_if Γ (reach_of Γ i)
outside_is Γ i = by_reach Γ i.name i.index (reach_of Γ i) (reaches_by Γ i.name i.index)

-- ---- tests of two items

pub for_some_both : (Γ : Sorts) (o p : Option Name) (g : ℕ → ℕ → Bool) → same_index o p ≡ false → for_some Γ (λ ρ. g (number_at ρ o) (number_at ρ p)) ≡ list_any (λ v. list_any (g v) (numbers_in Γ p)) (numbers_in Γ o)
for_some_both Γ None p g off = for_some_at Γ p (g 0) ∙ any_only (λ v. list_any (g v) (numbers_in Γ p)) 0
for_some_both Γ (Some i) None g off = for_some_one Γ i.0 (λ v. g v 0) ∙ any_same (λ v. g v 0) (λ v. list_any (g v) (0 ∷ [])) (index_values Γ i.0) (λ v. any_only (g v) 0)
for_some_both Γ (Some i) (Some j) g off = for_some_two Γ i.0 j.0 g off

pub same_numbers : (o p : Option Name) (ρ : Indices) → same_index o p ≡ true → number_at ρ o ≡ number_at ρ p
same_numbers None p ρ h = false_not_true h
same_numbers (Some i) None ρ h = false_not_true h
same_numbers (Some i) (Some j) ρ h = ap ρ (eqb-true i.0 j.0 h)

abbrev both_same : Option ℕ → Option ℕ → Bool
both_same None e = false
both_same (Some k) None = false
both_same (Some k) (Some j) = k == j

both_is : (x y : ℕ) (e f : Option ℕ) → same_place (element_at x e) (element_at y f) ≡ (x == y && both_same e f)
both_is x y None f = sym (and_false (x == y))
  where
    and_false : (b : Bool) → (b && false) ≡ false
    and_false true = refl
    and_false false = refl
both_is x y (Some k) None = sym (and_false (x == y))
  where
    and_false : (b : Bool) → (b && false) ≡ false
    and_false true = refl
    and_false false = refl
both_is x y (Some k) (Some j) = refl

both_parts : (p q : Bool) (m n : ℕ) → both_same (if p then Some m else None) (if q then Some n else None) ≡ true → (p ≡ true) × (q ≡ true) × (m ≡ n)
both_parts true true m n h = (refl, refl, eqb-true m n h)
both_parts true false m n h = false_not_true h
both_parts false q m n h = false_not_true h

both_from : (p q : Bool) (m n : ℕ) → p ≡ true → q ≡ true → m ≡ n → both_same (if p then Some m else None) (if q then Some n else None) ≡ true
both_from true true m n h k e = eq-eqb m n e
both_from true false m n h k e = false_not_true k
both_from false q m n h k e = false_not_true h

-- two items at two values, by numbers
abbrev meet_at : Reach → Reach → ℕ → ℕ → Bool
meet_at a b v w = both_same (reached a v) (reached b w)

meet_parts : (a b : Reach) (v w : ℕ) → meet_at a b v w ≡ true → (a.less ≤ v + a.more) × (b.less ≤ w + b.more) × (v + a.more - a.less ≡ w + b.more - b.less)
meet_parts a b v w h =
    let k = both_parts (nat_le a.less (v + a.more)) (nat_le b.less (w + b.more)) (v + a.more - a.less) (w + b.more - b.less) h in
    (leb-true a.less (v + a.more) k.0, leb-true b.less (w + b.more) k.1, k.2)

meet_from : (a b : Reach) (v w : ℕ) → a.less ≤ v + a.more → b.less ≤ w + b.more → v + a.more - a.less ≡ w + b.more - b.less → meet_at a b v w ≡ true
meet_from a b v w h k e = both_from (nat_le a.less (v + a.more)) (nat_le b.less (w + b.more)) (v + a.more - a.less) (w + b.more - b.less) (le-leb a.less (v + a.more) h) (le-leb b.less (w + b.more) k) e

together : (a b : Reach) → 0 < a.count → list_any (λ v. meet_at a b v v) (numbers_from a.base a.count) ≡ meet_together a b
together a b some = same_truth (list_any (λ v. meet_at a b v v) (numbers_from a.base a.count)) (meet_together a b)
    (λ h.
    let w = any_from (λ v. meet_at a b v v) (numbers_from a.base a.count) h in
    let i = among_from w.0 a.base a.count w.1 in
    let m = meet_parts a b w.0 w.0 w.2 in
    and_from (a.more + b.less == b.more + a.less) (nat_lt a.less (a.base + a.count + a.more)) (eq-eqb (a.more + b.less) (b.more + a.less) (omega (arith, m.0, m.1, m.2))) (lt-ltb a.less (a.base + a.count + a.more) (omega (arith, m.0, i.1))))
    (λ h.
    let k = and_parts (a.more + b.less == b.more + a.less) (nat_lt a.less (a.base + a.count + a.more)) h in
    let e = eqb-true (a.more + b.less) (b.more + a.less) k.0 in
    let l = ltb-true a.less (a.base + a.count + a.more) k.1 in
    let v = a.base + a.count - 1 in
    any_at (λ v. meet_at a b v v) (numbers_from a.base a.count) v (among_to v a.base a.count (omega arith) (omega arith)) (meet_from a b v v (omega arith) (omega arith) (omega arith)))

-- a number that is at least three others and below two, where it can be
between : (f g n k l : ℕ) → f < k → g < k → n < k → f < l → g < l → n < l → (x : ℕ) × (f ≤ x) × (g ≤ x) × (n ≤ x) × (x < k) × (x < l)
between f g n k l fk gk nk fl gl nl = elim (cases_lt f g) [
  | inl c ↦ second g n k l f (omega arith) gk nk gl nl
  | inr c ↦ let w = second f n k l g c fk nk fl nl in (w.0, w.2, w.1, w.3, w.4, w.5)
]
  where
    second : (g n k l f : ℕ) → f ≤ g → g < k → n < k → g < l → n < l → (x : ℕ) × (f ≤ x) × (g ≤ x) × (n ≤ x) × (x < k) × (x < l)
    second g n k l f e gk nk gl nl = elim (cases_lt g n) [
      | inl c ↦ (n, omega arith, omega arith, omega arith, nk, nl)
      | inr c ↦ (g, e, omega arith, c, gk, gl)
    ]

apart_forth : (a b : Reach) → list_any (λ v. list_any (meet_at a b v) (numbers_from b.base b.count)) (numbers_from a.base a.count) ≡ true → meet_apart a b ≡ true
apart_forth a b h =
    let w = any_from (λ v. list_any (meet_at a b v) (numbers_from b.base b.count)) (numbers_from a.base a.count) h in
    let u = any_from (meet_at a b w.0) (numbers_from b.base b.count) w.2 in
    let i = among_from w.0 a.base a.count w.1 in
    let j = among_from u.0 b.base b.count u.1 in
    let m = meet_parts a b w.0 u.0 u.2 in
    and_from (nat_lt (a.base + a.more + b.less) (b.base + b.more + a.less + b.count) && nat_lt (b.base + b.more + a.less) (a.base + a.more + b.less + a.count)) (nat_lt (a.less + b.less) (a.base + a.more + b.less + a.count) && nat_lt (a.less + b.less) (b.base + b.more + a.less + b.count))
    (and_from (nat_lt (a.base + a.more + b.less) (b.base + b.more + a.less + b.count)) (nat_lt (b.base + b.more + a.less) (a.base + a.more + b.less + a.count))
    (lt-ltb (a.base + a.more + b.less) (b.base + b.more + a.less + b.count) (omega (arith, i.0, i.1, j.0, j.1, m.0, m.1, m.2)))
    (lt-ltb (b.base + b.more + a.less) (a.base + a.more + b.less + a.count) (omega (arith, i.0, i.1, j.0, j.1, m.0, m.1, m.2))))
    (and_from (nat_lt (a.less + b.less) (a.base + a.more + b.less + a.count)) (nat_lt (a.less + b.less) (b.base + b.more + a.less + b.count))
    (lt-ltb (a.less + b.less) (a.base + a.more + b.less + a.count) (omega (arith, i.0, i.1, j.0, j.1, m.0, m.1, m.2)))
    (lt-ltb (a.less + b.less) (b.base + b.more + a.less + b.count) (omega (arith, i.0, i.1, j.0, j.1, m.0, m.1, m.2))))

apart_back : (a b : Reach) → 0 < a.count → 0 < b.count → meet_apart a b ≡ true → list_any (λ v. list_any (meet_at a b v) (numbers_from b.base b.count)) (numbers_from a.base a.count) ≡ true
apart_back a b some other h =
    let k = and_parts (nat_lt (a.base + a.more + b.less) (b.base + b.more + a.less + b.count) && nat_lt (b.base + b.more + a.less) (a.base + a.more + b.less + a.count)) (nat_lt (a.less + b.less) (a.base + a.more + b.less + a.count) && nat_lt (a.less + b.less) (b.base + b.more + a.less + b.count)) h in
    let k0 = and_parts (nat_lt (a.base + a.more + b.less) (b.base + b.more + a.less + b.count)) (nat_lt (b.base + b.more + a.less) (a.base + a.more + b.less + a.count)) k.0 in
    let k1 = and_parts (nat_lt (a.less + b.less) (a.base + a.more + b.less + a.count)) (nat_lt (a.less + b.less) (b.base + b.more + a.less + b.count)) k.1 in
    let l0 = ltb-true (a.base + a.more + b.less) (b.base + b.more + a.less + b.count) k0.0 in
    let l1 = ltb-true (b.base + b.more + a.less) (a.base + a.more + b.less + a.count) k0.1 in
    let l2 = ltb-true (a.less + b.less) (a.base + a.more + b.less + a.count) k1.0 in
    let l3 = ltb-true (a.less + b.less) (b.base + b.more + a.less + b.count) k1.1 in
    let x = between (a.base + a.more + b.less) (b.base + b.more + a.less) (a.less + b.less) (a.base + a.more + b.less + a.count) (b.base + b.more + a.less + b.count) (omega arith) l1 l2 l0 (omega arith) l3 in
    at_places a b x.0 x.1 x.2 x.3 x.4 x.5
  where
    at_places : (a b : Reach) (x : ℕ) → a.base + a.more + b.less ≤ x → b.base + b.more + a.less ≤ x → a.less + b.less ≤ x → x < a.base + a.more + b.less + a.count → x < b.base + b.more + a.less + b.count → list_any (λ v. list_any (meet_at a b v) (numbers_from b.base b.count)) (numbers_from a.base a.count) ≡ true
    at_places a b x h0 h1 h2 h3 h4 =
        let v = x - (a.more + b.less) in
        let w = x - (b.more + a.less) in
        any_at (λ v. list_any (meet_at a b v) (numbers_from b.base b.count)) (numbers_from a.base a.count) v (among_to v a.base a.count (omega arith) (omega arith))
        (any_at (meet_at a b v) (numbers_from b.base b.count) w (among_to w b.base b.count (omega arith) (omega arith))
        (meet_from a b v w (omega arith) (omega arith) (omega arith)))

apart : (a b : Reach) → 0 < a.count → 0 < b.count → list_any (λ v. list_any (meet_at a b v) (numbers_from b.base b.count)) (numbers_from a.base a.count) ≡ meet_apart a b
apart a b some other = same_truth (list_any (λ v. list_any (meet_at a b v) (numbers_from b.base b.count)) (numbers_from a.base a.count)) (meet_apart a b) (apart_forth a b) (apart_back a b some other)

-- two items for some values that their indices take together
pair_is : (Γ : Sorts) (x y : Name) (i j : Option Index) (a b : Reach) → IsReach Γ x i a → IsReach Γ y j b → (c : Bool) → same_index a.index b.index ≡ c → for_some Γ (λ ρ. meet_at a b (number_at ρ a.index) (number_at ρ b.index)) ≡ (if c then meet_together a b else meet_apart a b)
pair_is Γ x y i j a b ra rb true e =
    for_some_same Γ (λ ρ. meet_at a b (number_at ρ a.index) (number_at ρ b.index)) (λ ρ. meet_at a b (number_at ρ a.index) (number_at ρ a.index)) (λ ρ t. ap (meet_at a b (number_at ρ a.index)) (sym (same_numbers a.index b.index ρ e)))
    ∙ for_some_at Γ a.index (λ v. meet_at a b v v)
    ∙ ap (list_any (λ v. meet_at a b v v)) ra.values
    ∙ together a b ra.some
pair_is Γ x y i j a b ra rb false e =
    for_some_both Γ a.index b.index (meet_at a b) e
    ∙ (λ k. list_any (λ v. list_any (meet_at a b v) (rb.values k)) (ra.values k))
    ∙ apart a b ra.some rb.some

meets_is : (Γ : Sorts) (x y : Name) (i j : Option Index) (a b : Reach) → IsReach Γ x i a → IsReach Γ y j b → for_some Γ (λ ρ. same_place (place_with ρ x.0 i) (place_with ρ y.0 j)) ≡ meets a b
meets_is Γ x y i j a b ra rb =
    for_some_same Γ (λ ρ. same_place (place_with ρ x.0 i) (place_with ρ y.0 j)) (λ ρ. x.0 == y.0 && meet_at a b (number_at ρ a.index) (number_at ρ b.index)) (λ ρ t. (λ k. same_place (ra.places ρ k) (rb.places ρ k)) ∙ both_is x.0 y.0 (reached a (number_at ρ a.index)) (reached b (number_at ρ b.index)))
    ∙ for_some_and Γ (x.0 == y.0) (λ ρ. meet_at a b (number_at ρ a.index) (number_at ρ b.index))
    ∙ (λ k. (sym ra.named k).0 == (sym rb.named k).0 && pair_is Γ x y i j a b ra rb (same_index a.index b.index) refl k)

may_by : (Γ : Sorts) (x y : Name) (i j : Option Index) (o p : Option Reach) → MatchOption o (index_counts Γ i ≡ false) (IsReach Γ x i) → MatchOption p (index_counts Γ j ≡ false) (IsReach Γ y j) → ((index_counts Γ i && index_counts Γ j) && for_some Γ (λ ρ. same_place (place_with ρ x.0 i) (place_with ρ y.0 j))) ≡ may_meet_any o p
may_by Γ x y i j None p h k = ap (λ b. (b && index_counts Γ j) && for_some Γ (λ ρ. same_place (place_with ρ x.0 i) (place_with ρ y.0 j))) h
may_by Γ x y i j (Some a) None h k = λ l. (h.counts l && k l) && for_some Γ (λ ρ. same_place (place_with ρ x.0 i) (place_with ρ y.0 j))
may_by Γ x y i j (Some a) (Some b) h k = (λ l. (h.counts l && k.counts l) && for_some Γ (λ ρ. same_place (place_with ρ x.0 i) (place_with ρ y.0 j))) ∙ meets_is Γ x y i j a b h k

pub may_meet_is : (Γ : Sorts) (i j : Item) → may_meet Γ i j ≡ may_meet_any (reach_of Γ i) (reach_of Γ j)
may_meet_is Γ i j = may_by Γ i.name j.name i.index j.index (reach_of Γ i) (reach_of Γ j) (reaches_by Γ i.name i.index) (reaches_by Γ j.name j.index)

meets_one_is : (Γ : Sorts) (i : Item) (is : List Item) → list_any (may_meet Γ i) is ≡ list_any (may_meet_any (reach_of Γ i)) (map (reach_of Γ) is)
meets_one_is Γ i [] = refl
meets_one_is Γ i (j ∷ is) = λ k. may_meet_is Γ i j k || meets_one_is Γ i is k

pub some_meet_is : (Γ : Sorts) (is : List Item) → some_meet Γ is ≡ some_pair (map (reach_of Γ) is)
some_meet_is Γ [] = refl
some_meet_is Γ (i ∷ is) = λ k. meets_one_is Γ i is k || some_meet_is Γ is k
