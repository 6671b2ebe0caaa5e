-- The marks of the lines of a row are fine.
use Rattle.std.proofs.Common.{◌≡◌, ◌==◌, ◌&&◌, ◌++◌, ℕ, Bool, true, false, not, nat_lt, List, [], ◌∷◌, Some, None, refl, ap}
use Rattle.std.specs.List.{list_all, list_any, AllByRecursion}
use Rattle.std.specs.Ordering.{is_lt, nat_cmp}
use Rattle.std.specs.declared.cmp.Ordering.{Ordering}
use Rattle.std.specs.declared.cmp.Ordering.TheVariants.{Less, Equal, Greater}
use Rattle.std.proofs.Common.{cond}
use Rattle.std.proofs.lemmas.Bool.{and_parts, false≢true}
use Rattle.occ_syntax.specs.occ_base.declared.event.Event.{Event}
use Rattle.occ_syntax.specs.occ_base.declared.names.Name.{Name}
use Rattle.occ_syntax.specs.declared.scope.Kind.{Kind}
use Rattle.occ_compare.specs.occ_accept.Order.{strict}
use Rattle.occ_nform_table.specs.Judging.{Mark, Fine, placed, list_marks, accept_mark, accept_marks, set_less, is_offered, contains}

abbrev pub AreFine : List Mark → Type 0
AreFine marks = AllByRecursion (λ mark. mark ≡ Fine) marks

pub fine_both : (front back : List Mark) → AreFine front → AreFine back → AreFine (front ++ back)
fine_both [] back f b = b
fine_both (m ∷ front) back f b = (f.0, fine_both front back f.1 b)

-- ---- lists that increase
module _ {A : Type 0} (less : A → A → Bool) (R : A → A → Ordering) (P : A → Type 0) (goes : (x y : A) → P x → P y → is_lt (R x y) ≡ true → less x y ≡ true) where
  fine_behind : (x : A) (xs : List A) → P x → AllByRecursion P xs → list_all (λ y. is_lt (R x y)) xs ≡ true → strict R xs ≡ true → AreFine (list_marks less (Some x) xs)
  unfolding list_marks
  fine_behind x [] p all above up = tt
  fine_behind x (y ∷ ys) p all above up =
      let a = and_parts (is_lt (R x y)) (list_all (λ z. is_lt (R x z)) ys) above in
      let u = and_parts (list_all (λ z. is_lt (R y z)) ys) (strict R ys) up in
      (ap placed (goes x y p all.0 a.0), fine_behind y ys all.0 all.1 u.0 u.1)

  pub fine_marks : (xs : List A) → AllByRecursion P xs → strict R xs ≡ true → AreFine (list_marks less None xs)
  unfolding list_marks
  fine_marks [] all up = tt
  fine_marks (x ∷ xs) all up =
      let u = and_parts (list_all (λ z. is_lt (R x z)) xs) (strict R xs) up in
      (refl, fine_behind x xs all.0 all.1 u.0 u.1)

-- ---- acceptances
module _ (ps : List (Name × Kind)) (offers : List (Event × ℕ)) (all : List (List Event)) where
  -- the set lies within the offers, and contains no other set
  abbrev pub IsLeast : List Event → Type 0
  IsLeast set = (is_offered ps offers set ≡ true) × (list_any (contains ps set) all ≡ false)

  least_mark : (b : Bool) (set : List Event) → b ≡ true → IsLeast set → accept_mark b (is_offered ps offers set && not (list_any (contains ps set) all)) ≡ Fine
  least_mark b set e h = (λ i. accept_mark (e i) (h.0 i && not (h.1 i)))

  module _ (R : List Event → List Event → Ordering) (P : List Event → Type 0) (goes : (s t : List Event) → P s → P t → is_lt (R s t) ≡ true → set_less ps s t ≡ true) where
    least_behind : (s : List Event) (sets : List (List Event)) → P s → AllByRecursion P sets → AllByRecursion IsLeast sets → list_all (λ t. is_lt (R s t)) sets ≡ true → strict R sets ≡ true
        → AreFine (accept_marks ps offers all (Some s) sets)
    unfolding accept_marks
    least_behind s [] p each least above up = tt
    least_behind s (t ∷ sets) p each least above up =
        let a = and_parts (is_lt (R s t)) (list_all (λ u. is_lt (R s u)) sets) above in
        let u = and_parts (list_all (λ v. is_lt (R t v)) sets) (strict R sets) up in
        (least_mark (set_less ps s t) t (goes s t p each.0 a.0) least.0, least_behind t sets each.0 each.1 least.1 u.0 u.1)

    pub least_marks : (sets : List (List Event)) → AllByRecursion P sets → AllByRecursion IsLeast sets → strict R sets ≡ true → AreFine (accept_marks ps offers all None sets)
    unfolding accept_marks
    least_marks [] each least up = tt
    least_marks (s ∷ sets) each least up =
        let u = and_parts (list_all (λ v. is_lt (R s v)) sets) (strict R sets) up in
        (least_mark true s refl least.0, least_behind s sets each.0 each.1 least.1 u.0 u.1)

pub number_less : (m n : ℕ) → is_lt (nat_cmp m n) ≡ true → nat_lt m n ≡ true
number_less m n h = is_test (nat_lt m n) (m == n) h
  where
    is_test : (a b : Bool) → is_lt (cond a Less (cond b Equal Greater)) ≡ true → a ≡ true
    is_test true b h = refl
    is_test false true h = absurd (false≢true h)
    is_test false false h = absurd (false≢true h)
