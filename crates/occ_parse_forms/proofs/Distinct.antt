-- The names that stand without an index are distinct where the test says so.
use Rattle.std.proofs.Common.{◌≡◌, ℕ, true, false, nat_eq, ◌||◌, List, [], ◌∷◌, refl, sym, ap, ◌∙◌, subst, inl, inr}
use Rattle.std.specs.Prelude.{is_some}
use Rattle.std.specs.List.{AllByRecursion, IsDistinct, list_any}
use Rattle.std.proofs.lemmas.Bool.{both_ways, cases_Bool, cond-true, cond-false, or_parts}
use Rattle.occ_parse_forms.specs.declared.form.Item.{Item}
use Rattle.occ_parse_forms.specs.Lines.{plain_names}
use Rattle.occ_parse_forms.specs.Reading.{names_again, stands_among, are_distinct}

abbrev Differ : Item → List ℕ → Type 0
Differ i names = AllByRecursion (λ name. nat_eq i.name.0 name ≡ false) names

indexed : (o : Item) (items : List Item) → is_some o.index ≡ true → plain_names (o ∷ items) ≡ plain_names items
indexed o items t = cond-true (is_some o.index) _ _ t

plain : (o : Item) (items : List Item) → is_some o.index ≡ false → plain_names (o ∷ items) ≡ o.name.0 ∷ plain_names items
plain o items f = cond-false (is_some o.index) _ _ f

differ_ok : (i : Item) (items : List Item) → list_any (names_again i) items ≡ false → Differ i (plain_names items)
differ_ok i [] h = tt
differ_ok i (o ∷ items) h =
    let p = or_parts (names_again i o) (list_any (names_again i) items) h in
    elim (cases_Bool (is_some o.index)) [
      | inl t ↦ subst (Differ i) (sym (indexed o items t)) (differ_ok i items p.1)
      | inr f ↦ subst (Differ i) (sym (plain o items f)) (sym (cond-false (is_some o.index) _ _ f) ∙ p.0, differ_ok i items p.1)
    ]

differ_back : (i : Item) (items : List Item) → Differ i (plain_names items) → list_any (names_again i) items ≡ false
differ_back i [] h = refl
differ_back i (o ∷ items) h = elim (cases_Bool (is_some o.index)) [
  | inl t ↦
      let e : names_again i o ≡ false = cond-true (is_some o.index) _ _ t in
      ap (λ b. b || list_any (names_again i) items) e ∙ differ_back i items (subst (Differ i) (indexed o items t) h)
  | inr f ↦
      let k = subst (Differ i) (plain o items f) h in
      let e : names_again i o ≡ false = cond-false (is_some o.index) _ _ f ∙ k.0 in
      ap (λ b. b || list_any (names_again i) items) e ∙ differ_back i items k.1
]

pub distinct_ok : (items : List Item) → are_distinct items ≡ true → IsDistinct nat_eq (plain_names items)
unfolding IsDistinct
distinct_ok [] h = tt
distinct_ok (i ∷ items) h = elim (cases_Bool (stands_among i items)) [
  | inl t ↦ absurd (both_ways false refl (sym (cond-true (stands_among i items) _ _ t) ∙ h))
  | inr f ↦
      let rest = distinct_ok items (sym (cond-false (stands_among i items) _ _ f) ∙ h) in
      elim (cases_Bool (is_some i.index)) [
        | inl t ↦ subst (IsDistinct nat_eq) (sym (indexed i items t)) rest
        | inr p ↦ subst (IsDistinct nat_eq) (sym (plain i items p)) (differ_ok i items (sym (cond-false (is_some i.index) _ _ p) ∙ f), rest)
      ]
]

pub distinct_back : (items : List Item) → IsDistinct nat_eq (plain_names items) → are_distinct items ≡ true
unfolding IsDistinct
distinct_back [] h = refl
distinct_back (i ∷ items) h = elim (cases_Bool (is_some i.index)) [
  | inl t ↦
      let e : stands_among i items ≡ false = cond-true (is_some i.index) _ _ t in
      cond-false (stands_among i items) _ _ e ∙ distinct_back items (subst (IsDistinct nat_eq) (indexed i items t) h)
  | inr p ↦
      let k = subst (IsDistinct nat_eq) (plain i items p) h in
      let e : stands_among i items ≡ false = cond-false (is_some i.index) _ _ p ∙ differ_back i items k.0 in
      cond-false (stands_among i items) _ _ e ∙ distinct_back items k.1
]
