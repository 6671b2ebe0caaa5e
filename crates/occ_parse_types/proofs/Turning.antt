-- Tests of items for some values of the indices, by the values of the names in the items' own indices.
use Rattle.std.proofs.Common.{◌≡◌, ℕ, ◌-◌, ◌==◌, nat_le, ◌+◌, ◌⊎◌, Bool, true, false, ◌||◌, if◌then◌else◌, List, [], ◌∷◌, Option, Some, None, is_none, refl, sym, ap, ◌∙◌, inl, inr}
use Rattle.std.specs.List.{list_any}
use Rattle.std.proofs.lemmas.Bool.{eqb-true}
use Rattle.occ_parse_forms.specs.declared.form.Item.{Item}
use Rattle.occ_parse_forms.specs.declared.phrase.Index.{Index}
use Rattle.occ_parse_forms.specs.declared.phrase.Index.TheVariants as index
use Rattle.occ_parse_rules.specs.declared.sort.Sort.{Sort}
use Rattle.occ_parse_rules.specs.declared.sort.Sort.TheVariants as sort
use Rattle.occ_parse_rules.specs.Names.{index_counts, is_counter}
use Rattle.occ_parse_rules.specs.Places.{Sorts, Indices, sort_at, for_some, element_at, place_with, place_at, sort_of_place}
use Rattle.occ_parse_rules.specs.Types.{sort_if, sort_here, width_of_sort, if_asked, sort_clashes}
use Rattle.occ_parse_types.specs.Asking.{items_clash}
use Rattle.occ_parse_scopes.specs.Taken.{index_values}
use Rattle.occ_parse_scopes.proofs.Taken.{for_some_same, for_some_still, for_some_one, for_some_two, counter_values}
use Rattle.occ_parse_types.specs.Turns.{name_in, same_name, turns_of, turns_by_name, turns, sort_turn}

-- ---- what an item stands for depends on one index at most

place_same : (ρ σ : Indices) (x : ℕ) (o : Option Index) → ((n : ℕ) → name_in o ≡ Some n → ρ n ≡ σ n) → place_with ρ x o ≡ place_with σ x o
place_same ρ σ x None h = refl
place_same ρ σ x (Some (index.Number k)) h = refl
place_same ρ σ x (Some (index.Name i)) h = ap (λ v. element_at x (Some v)) (h i.0 refl)
place_same ρ σ x (Some (index.Plus i k)) h = ap (λ v. element_at x (Some (v + k))) (h i.0 refl)
place_same ρ σ x (Some (index.Minus i k)) h = ap (λ v. element_at x (if nat_le k v then Some (v - k) else None)) (h i.0 refl)

pub sort_same : (Γ : Sorts) (ρ σ : Indices) (i : Item) → ((n : ℕ) → name_in i.index ≡ Some n → ρ n ≡ σ n) → sort_here Γ ρ i ≡ sort_here Γ σ i
sort_same Γ ρ σ i h = ap (λ p. sort_if (is_none i.index || index_counts Γ i.index) (sort_of_place Γ p)) (place_same ρ σ i.name.0 i.index h)

by_turn : (Γ : Sorts) (ρ : Indices) (i : Item) (x : ℕ) → name_in i.index ≡ Some x → sort_here Γ ρ i ≡ sort_turn Γ i (ρ x)
by_turn Γ ρ i x e = sort_same Γ ρ (λ y. ρ x) i (λ n f. let same : n ≡ x = cc in ap ρ same)

pub no_name : (Γ : Sorts) (ρ σ : Indices) (i : Item) → name_in i.index ≡ None → sort_here Γ ρ i ≡ sort_here Γ σ i
no_name Γ ρ σ i e = sort_same Γ ρ σ i (λ n f. cc)

counts_by_name : (Γ : Sorts) (o : Option Index) (x : ℕ) → name_in o ≡ Some x → (is_none o || index_counts Γ o) ≡ is_counter (sort_at Γ x None)
counts_by_name Γ None x e = cc
counts_by_name Γ (Some (index.Number k)) x e = cc
counts_by_name Γ (Some (index.Name i)) x e = let same : i.0 ≡ x = cc in ap (λ n. is_counter (sort_at Γ n None)) same
counts_by_name Γ (Some (index.Plus i k)) x e = let same : i.0 ≡ x = cc in ap (λ n. is_counter (sort_at Γ n None)) same
counts_by_name Γ (Some (index.Minus i k)) x e = let same : i.0 ≡ x = cc in ap (λ n. is_counter (sort_at Γ n None)) same

lost : (Γ : Sorts) (ρ : Indices) (i : Item) (x : ℕ) → name_in i.index ≡ Some x → is_counter (sort_at Γ x None) ≡ false → sort_here Γ ρ i ≡ None
lost Γ ρ i x e f = ap (λ b. sort_if b (sort_of_place Γ (place_at ρ i))) (counts_by_name Γ i.index x e ∙ f)

-- an item that stands for one thing, and one that depends on an index
pub record IsStill (Γ : Sorts) (i : Item) : Type 0 where
  pub same : (ρ σ : Indices) → sort_here Γ ρ i ≡ sort_here Γ σ i
  pub once : turns Γ i ≡ 0 ∷ []

pub record IsMoving (Γ : Sorts) (i : Item) : Type 0 where
  pub name : ℕ
  pub named : name_in i.index ≡ Some name
  pub values : turns Γ i ≡ index_values Γ name

still_or_moving : (Γ : Sorts) (i : Item) → IsStill Γ i ⊎ IsMoving Γ i
still_or_moving Γ i = by_name (name_in i.index) refl
  where
    by_sort : (x : ℕ) (s : Option Sort) → name_in i.index ≡ Some x → sort_at Γ x None ≡ s → IsStill Γ i ⊎ IsMoving Γ i
    by_sort x None e f = inl (record { same = λ ρ σ. lost Γ ρ i x e (ap is_counter f) ∙ sym (lost Γ σ i x e (ap is_counter f)); once = ap (turns_by_name Γ) e ∙ ap turns_of f })
    by_sort x (Some (sort.Variable w)) e f = inl (record { same = λ ρ σ. lost Γ ρ i x e (ap is_counter f) ∙ sym (lost Γ σ i x e (ap is_counter f)); once = ap (turns_by_name Γ) e ∙ ap turns_of f })
    by_sort x (Some (sort.Channel w mark)) e f = inl (record { same = λ ρ σ. lost Γ ρ i x e (ap is_counter f) ∙ sym (lost Γ σ i x e (ap is_counter f)); once = ap (turns_by_name Γ) e ∙ ap turns_of f })
    by_sort x (Some (sort.Counter b n)) e f = inr (record { name = x; named = e; values = ap (turns_by_name Γ) e ∙ ap turns_of f ∙ sym (counter_values Γ x b n f) })

    by_name : (o : Option ℕ) → name_in i.index ≡ o → IsStill Γ i ⊎ IsMoving Γ i
    by_name None e = inl (record { same = λ ρ σ. no_name Γ ρ σ i e; once = ap (turns_by_name Γ) e })
    by_name (Some x) e = by_sort x (sort_at Γ x None) e refl

-- ---- one item

alone : (b : Bool) → (b || false) ≡ b
alone true = refl
alone false = refl

pub some_item : (Γ : Sorts) (i : Item) (f : Option Sort → Bool) → for_some Γ (λ ρ. f (sort_here Γ ρ i)) ≡ list_any (λ v. f (sort_turn Γ i v)) (turns Γ i)
some_item Γ i f = elim (still_or_moving Γ i) [
  | inl s ↦
      for_some_same Γ _ _ (λ ρ t. ap f (s.same ρ (λ x. 0)))
      ∙ for_some_still Γ (f (sort_turn Γ i 0))
      ∙ sym (ap (list_any (λ v. f (sort_turn Γ i v))) s.once ∙ alone (f (sort_turn Γ i 0)))
  | inr m ↦
      for_some_same Γ _ _ (λ ρ t. ap f (by_turn Γ ρ i m.name m.named))
      ∙ for_some_one Γ m.name (λ v. f (sort_turn Γ i v))
      ∙ ap (list_any (λ v. f (sort_turn Γ i v))) (sym m.values)
]

-- ---- two items

pub any_same : (f g : ℕ → Bool) (vs : List ℕ) → ((v : ℕ) → f v ≡ g v) → list_any f vs ≡ list_any g vs
any_same f g vs h = ap (λ t. list_any t vs) (λ k. λ v. h v k)

names_differ : (o p : Option ℕ) (x y : ℕ) → o ≡ Some x → p ≡ Some y → same_name o p ≡ false → (x == y) ≡ false
names_differ None p x y e f h = cc
names_differ (Some a) None x y e f h = cc
names_differ (Some a) (Some b) x y e f h =
    let left : a ≡ x = cc in
    let right : b ≡ y = cc in
    sym (λ k. left k == right k) ∙ h

pub some_apart : (Γ : Sorts) (j i : Item) (f : Option Sort → Option Sort → Bool) → same_name (name_in j.index) (name_in i.index) ≡ false → for_some Γ (λ ρ. f (sort_here Γ ρ j) (sort_here Γ ρ i)) ≡ list_any (λ v. for_some Γ (λ ρ. f (sort_turn Γ j v) (sort_here Γ ρ i))) (turns Γ j)
some_apart Γ j i f differ = elim (still_or_moving Γ j) [
  | inl s ↦
      for_some_same Γ _ _ (λ ρ t. ap (λ o. f o (sort_here Γ ρ i)) (s.same ρ (λ x. 0)))
      ∙ sym (ap (list_any (λ v. for_some Γ (λ ρ. f (sort_turn Γ j v) (sort_here Γ ρ i)))) s.once ∙ alone (for_some Γ (λ ρ. f (sort_turn Γ j 0) (sort_here Γ ρ i))))
  | inr m ↦ elim (still_or_moving Γ i) [
    | inl s ↦
        for_some_same Γ _ _ (λ ρ t. λ k. f (by_turn Γ ρ j m.name m.named k) (s.same ρ (λ x. 0) k))
        ∙ for_some_one Γ m.name (λ v. f (sort_turn Γ j v) (sort_turn Γ i 0))
        ∙ any_same _ _ (index_values Γ m.name) (λ v. sym (for_some_same Γ _ _ (λ ρ t. ap (f (sort_turn Γ j v)) (s.same ρ (λ x. 0))) ∙ for_some_still Γ (f (sort_turn Γ j v) (sort_turn Γ i 0))))
        ∙ ap (list_any (λ v. for_some Γ (λ ρ. f (sort_turn Γ j v) (sort_here Γ ρ i)))) (sym m.values)
    | inr n ↦
        for_some_same Γ _ _ (λ ρ t. λ k. f (by_turn Γ ρ j m.name m.named k) (by_turn Γ ρ i n.name n.named k))
        ∙ for_some_two Γ m.name n.name (λ v w. f (sort_turn Γ j v) (sort_turn Γ i w)) (names_differ _ _ m.name n.name m.named n.named differ)
        ∙ any_same _ _ (index_values Γ m.name) (λ v. sym (for_some_same Γ _ _ (λ ρ t. ap (f (sort_turn Γ j v)) (by_turn Γ ρ i n.name n.named)) ∙ for_some_one Γ n.name (λ w. f (sort_turn Γ j v) (sort_turn Γ i w))))
        ∙ ap (list_any (λ v. for_some Γ (λ ρ. f (sort_turn Γ j v) (sort_here Γ ρ i)))) (sym m.values)
  ]
]

names_agree : (o p : Option ℕ) → same_name o p ≡ true → o ≡ p
names_agree None p h = cc
names_agree (Some a) None h = cc
names_agree (Some a) (Some b) h = ap Some (eqb-true a b h)

pub some_together : (Γ : Sorts) (j i : Item) (f : Option Sort → Option Sort → Bool) → same_name (name_in j.index) (name_in i.index) ≡ true → for_some Γ (λ ρ. f (sort_here Γ ρ j) (sort_here Γ ρ i)) ≡ list_any (λ v. f (sort_turn Γ j v) (sort_turn Γ i v)) (turns Γ j)
some_together Γ j i f agree =
    let names : name_in j.index ≡ name_in i.index = names_agree _ _ agree in
    elim (still_or_moving Γ j) [
      | inl s ↦ elim (still_or_moving Γ i) [
        | inl r ↦
            for_some_same Γ _ _ (λ ρ t. λ k. f (s.same ρ (λ x. 0) k) (r.same ρ (λ x. 0) k))
            ∙ for_some_still Γ (f (sort_turn Γ j 0) (sort_turn Γ i 0))
            ∙ sym (ap (list_any (λ v. f (sort_turn Γ j v) (sort_turn Γ i v))) s.once ∙ alone (f (sort_turn Γ j 0) (sort_turn Γ i 0)))
        | inr n ↦ moving n.name (names ∙ n.named) n.named (ap (turns_by_name Γ) names ∙ n.values)
      ]
      | inr m ↦ moving m.name m.named (sym names ∙ m.named) m.values
    ]
  where
    moving : (x : ℕ) → name_in j.index ≡ Some x → name_in i.index ≡ Some x → turns Γ j ≡ index_values Γ x → for_some Γ (λ ρ. f (sort_here Γ ρ j) (sort_here Γ ρ i)) ≡ list_any (λ v. f (sort_turn Γ j v) (sort_turn Γ i v)) (turns Γ j)
    moving x left right values =
        for_some_same Γ _ _ (λ ρ t. λ k. f (by_turn Γ ρ j x left k) (by_turn Γ ρ i x right k))
        ∙ for_some_one Γ x (λ v. f (sort_turn Γ j v) (sort_turn Γ i v))
        ∙ ap (list_any (λ v. f (sort_turn Γ j v) (sort_turn Γ i v))) (sym values)

pub none_asked : (Γ : Sorts) (other : Option Sort) (i : Item) → width_of_sort other ≡ None → false ≡ for_some Γ (λ ρ. items_clash other (sort_here Γ ρ i))
none_asked Γ other i e = sym (for_some_same Γ _ (λ ρ. false) (λ ρ t. ap (λ o. if_asked o (λ w. sort_clashes w (sort_here Γ ρ i))) e) ∙ for_some_still Γ false)
