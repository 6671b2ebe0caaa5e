-- The elements of arrays have their numbers in the table, and each number is that of its element.
use Rattle.std.proofs.Common.{◌≡◌, ℕ, zero, suc, ◌+◌, ◌<◌, ◌≤◌, ◌==◌, Bool, true, false, true≢false, cond, nat_lt, List, [], ◌∷◌, Some, refl, sym, ap, subst, ◌∙◌, arith, ⊎_elim}
use Rattle.std.specs.List.{AllByRecursion}
use Rattle.std.proofs.lemmas.Bool.{and_parts, eqb-true, ltb-true, cases_lt}
use Rattle.occ_syntax.specs.occ_base.declared.names.Name.{Name}
use Rattle.occ_parse_forms.specs.declared.form.Declared.{Declared}
use Rattle.occ_parse_forms.specs.declared.form.Declared.TheVariants as declared
use Rattle.occ_parse_rules.specs.Agreement.{Has}
use Rattle.occ_parse.specs.occ_parse_unroll.Numbers.{number_in}
use Rattle.occ_parse.proofs.Places.{knows as in_table}
use Rattle.occ_parse_part.specs.Elements.{Elements, element_count, elements_in, named_row, no_elements, row_in, row_number, with_arrays_in, with_row}
use Rattle.occ_parse_part.proofs.Equal.{eqb-refl}
use Rattle.occ_parse_part.specs.Parts.{IsNumbered}
use Rattle.occ_parse_part.proofs.Counted.{count_is}

abbrev pub is_some_element : Declared → Bool
is_some_element (declared.Plain y) = false
is_some_element (declared.Element y j) = true
is_some_element (declared.Array y c) = false

module _ (t : List (List ℕ)) where
  row_number_is : (x k m j : ℕ) → j < m → row_number (row_in t x k m) j ≡ number_in t x (Some (k + j))
  row_number_is x k zero j h = absurd (omega (arith, h))
  row_number_is x k (suc m) zero h = let e : k ≡ k + 0 = omega arith in ap (λ i. number_in t x (Some i)) e
  row_number_is x k (suc m) (suc j) h = let e : k + 1 + j ≡ k + suc j = omega arith in row_number_is x (k + 1) m j (omega (arith, h)) ∙ ap (λ i. number_in t x (Some i)) e

  -- the row of an array, and the number of an element in it
  abbrev row : ℕ → List Name
  row x = row_in t x 0 element_count

  row_is : (x j : ℕ) → j < 256 → row_number (row x) j ≡ number_in t x (Some j)
  row_is x j h = let e : 0 + j ≡ j = omega arith in row_number_is x 0 element_count j (omega (arith, h, count_is)) ∙ ap (λ i. number_in t x (Some i)) e

  -- ---- what each name is

  abbrev pub IsRight : Elements → Declared → ℕ → Type 0
  IsRight e (declared.Plain y) n = y.0 ≡ n
  IsRight e (declared.Element y j) n = (e.number y.0 j ≡ n) × (number_in t y.0 (Some j) ≡ n) × Has (in_table t) y.0 (Some j)
  IsRight e (declared.Array y c) n = ⊥

  pub right_numbered : (e : Elements) (d : Declared) (n : ℕ) → IsRight e d n → IsNumbered e d n
  right_numbered e (declared.Plain y) n h = h
  right_numbered e (declared.Element y j) n h = h.0
  right_numbered e (declared.Array y c) n h = h

  named_if : (P : Declared → ℕ → Type 0) (d c : Declared) (m n : ℕ) (b : Bool) → (m == n) ≡ b → P d m → P c n → P (cond b d c) n
  named_if P d c m n true e h g = subst (P d) (eqb-true m n e) h
  named_if P d c m n false e h g = g

  row_right : (P : Declared → ℕ → Type 0) (x : Name) (k m : ℕ) (others : ℕ → Declared) → ((n : ℕ) → P (others n) n)
      → ((j : ℕ) → k ≤ j → j < k + m → P (declared.Element x j) (number_in t x.0 (Some j))) → (n : ℕ) → P (named_row x k (row_in t x.0 k m) others n) n
  row_right P x k zero others h g n = h n
  row_right P x k (suc m) others h g n =
      let here = g k (omega arith) (omega arith) in
      row_right P x (k + 1) m (λ i. cond (number_in t x.0 (Some k) == i) (declared.Element x k) (others i))
      (λ i. named_if P (declared.Element x k) (others i) (number_in t x.0 (Some k)) i (number_in t x.0 (Some k) == i) refl here (h i))
      (λ j a b. g j (omega (arith, a)) (omega (arith, b))) n

  small : (y j : ℕ) → Has (in_table t) y (Some j) → j < 256
  small y j h = ltb-true _ _ (and_parts (nat_lt j 256) _ (and_parts _ _ h).1).0

  number_at : (b : Bool) (x y j : ℕ) (r : List Name) (o n : ℕ) → (x == y) ≡ b → r ≡ row x → j < 256 → o ≡ n → number_in t y (Some j) ≡ n → cond b (row_number r j) o ≡ n
  number_at true x y j r o n e s h old now = ap (λ l. row_number l j) s ∙ row_is x j h ∙ ap (λ z. number_in t z (Some j)) (eqb-true x y e) ∙ now
  number_at false x y j r o n e s h old now = old

  number_here : (b : Bool) (x j : ℕ) (r : List Name) (o : ℕ) → (x == x) ≡ b → r ≡ row x → j < 256 → cond b (row_number r j) o ≡ number_in t x (Some j)
  number_here true x j r o e s h = ap (λ l. row_number l j) s ∙ row_is x j h
  number_here false x j r o e s h = absurd (true≢false (sym (eqb-refl x) ∙ e))

  right_kept : (e : Elements) (x : Name) (d : Declared) (n : ℕ) → IsRight e d n → IsRight (with_row e x (row_in t x.0 0 element_count)) d n
  right_kept e x (declared.Plain y) n h = h
  right_kept e x (declared.Element y j) n h =
      (number_at (x.0 == y.0) x.0 y.0 j (row_in t x.0 0 element_count) (e.number y.0 j) n refl refl (small y.0 j h.2) h.0 h.1, h.1, h.2)
  right_kept e x (declared.Array y c) n h = h

  -- all elements of an array are in the table
  abbrev pub AreThere : ℕ → Type 0
  AreThere x = (j : ℕ) → j < 256 → Has (in_table t) x (Some j)

  right_row : (e : Elements) (x : Name) → AreThere x.0 → ((n : ℕ) → IsRight e (e.named n) n) → (n : ℕ) → IsRight (with_row e x (row_in t x.0 0 element_count)) ((with_row e x (row_in t x.0 0 element_count)).named n) n
  right_row e x there h n =
      let new = with_row e x (row_in t x.0 0 element_count) in
      row_right (IsRight new) x 0 element_count e.named (λ i. right_kept e x (e.named i) i (h i))
      (λ j a b.
      let within : j < 256 = omega (arith, b, count_is) in
      (number_here (x.0 == x.0) x.0 j (row_in t x.0 0 element_count) (e.number x.0 j) refl refl within, refl, there j within)) n

  right_all : (e : Elements) (xs : List Name) → AllByRecursion (λ (x : Name). AreThere x.0) xs → ((n : ℕ) → IsRight e (e.named n) n) → (n : ℕ) → IsRight (with_arrays_in t e xs) ((with_arrays_in t e xs).named n) n
  right_all e [] there h = h
  right_all e (x ∷ xs) there h = right_all (with_row e x (row_in t x.0 0 element_count)) xs there.1 (right_row e x there.0 h)

  pub all_right : (xs : List Name) → AllByRecursion (λ (x : Name). AreThere x.0) xs → (n : ℕ) → IsRight (elements_in t xs) ((elements_in t xs).named n) n
  all_right xs there = right_all no_elements xs there (λ n. refl)

  -- ---- the elements of each array

  pub record Covers (e : Elements) (x : ℕ) : Type 0 where
    pub number : (j : ℕ) → j < 256 → e.number x j ≡ number_in t x (Some j)
    pub element : (j : ℕ) → j < 256 → is_some_element (e.named (number_in t x (Some j))) ≡ true

  element_if : (b : Bool) (x : Name) (k : ℕ) (d : Declared) → is_some_element d ≡ true → is_some_element (cond b (declared.Element x k) d) ≡ true
  element_if true x k d h = refl
  element_if false x k d h = h

  element_kept : (x : Name) (k : ℕ) (r : List Name) (others : ℕ → Declared) (n : ℕ) → is_some_element (others n) ≡ true → is_some_element (named_row x k r others n) ≡ true
  element_kept x k [] others n h = h
  element_kept x k (name ∷ r) others n h =
      element_kept x (k + 1) r (λ i. cond (name.0 == i) (declared.Element x k) (others i)) n (element_if (name.0 == n) x k (others n) h)

  here_if : (b : Bool) (x : Name) (k : ℕ) (d : Declared) → b ≡ true → is_some_element (cond b (declared.Element x k) d) ≡ true
  here_if true x k d h = refl
  here_if false x k d h = absurd (true≢false (sym h))

  element_in_row : (x : Name) (k m : ℕ) (others : ℕ → Declared) (j : ℕ) → k ≤ j → j < k + m → is_some_element (named_row x k (row_in t x.0 k m) others (number_in t x.0 (Some j))) ≡ true
  element_in_row x k zero others j a b = absurd (omega (arith, a, b))
  element_in_row x k (suc m) others j a b =
      let next : ℕ → Declared = λ i. cond (number_in t x.0 (Some k) == i) (declared.Element x k) (others i) in
      ⊎_elim
      (λ (l : k < j). element_in_row x (k + 1) m next j (omega (arith, l)) (omega (arith, b)))
      (λ (l : j ≤ k).
      let same : k ≡ j = omega (arith, l, a) in
      element_kept x (k + 1) (row_in t x.0 (k + 1) m) next (number_in t x.0 (Some j))
      (here_if (number_in t x.0 (Some k) == number_in t x.0 (Some j)) x k (others (number_in t x.0 (Some j))) (ap (λ i. number_in t x.0 (Some k) == number_in t x.0 (Some i)) (sym same) ∙ eqb-refl (number_in t x.0 (Some k)))))
      (cases_lt k j)

  covers_row : (e : Elements) (x : Name) → Covers (with_row e x (row_in t x.0 0 element_count)) x.0
  covers_row e x = record {
    number = λ j h. number_here (x.0 == x.0) x.0 j (row_in t x.0 0 element_count) (e.number x.0 j) refl refl h;
    element = λ j h. element_in_row x 0 element_count e.named j (omega arith) (omega (arith, h, count_is));
  }

  covers_kept : (e : Elements) (x : Name) (y : ℕ) → Covers e y → Covers (with_row e x (row_in t x.0 0 element_count)) y
  covers_kept e x y c = record {
    number = λ j h. number_at (x.0 == y) x.0 y j (row_in t x.0 0 element_count) (e.number y j) (number_in t y (Some j)) refl refl h (c.number j h) refl;
    element = λ j h. element_kept x 0 (row_in t x.0 0 element_count) e.named (number_in t y (Some j)) (c.element j h);
  }

  covers_later : (e : Elements) (xs : List Name) (y : ℕ) → Covers e y → Covers (with_arrays_in t e xs) y
  covers_later e [] y c = c
  covers_later e (x ∷ xs) y c = covers_later (with_row e x (row_in t x.0 0 element_count)) xs y (covers_kept e x y c)

  pub covers_all : (e : Elements) (xs : List Name) → AllByRecursion (λ (x : Name). Covers (with_arrays_in t e xs) x.0) xs
  covers_all e [] = tt
  covers_all e (x ∷ xs) =
      let next = with_row e x (row_in t x.0 0 element_count) in
      (covers_later next xs x.0 (covers_row e x), covers_all next xs)
