-- The orders of rows, of sets and of lists by numbers are strict.
use Rattle.std.proofs.Common.{◌≡◌, ℕ, ◌<◌, Bool, true, ◌&&◌, ◌||◌, ◌==◌, nat_lt, List, [], ◌∷◌, Some, refl, ◌∙◌, inl, inr, ◌⊎◌, arith}
use Rattle.std.proofs.lemmas.Bool.{and_from, and_parts, or_cases, or_left, or_right, false≢true, ltb-true, lt-ltb, eqb-true, eq-eqb}
use Rattle.occ_lex.specs.occ_base.declared.event.Event.{Event}
use Rattle.occ_lex.specs.occ_base.declared.names.Name.{Name}
use Rattle.occ_syntax.specs.declared.scope.Kind.{Kind}
use Rattle.occ_nform_table.specs.declared.table.TableRow.{TableRow}
use Rattle.occ_nform_table.specs.Lines.{rank}
use Rattle.occ_nform_table.specs.Judging.{text_less, set_less, comes_after, height_over, row_text}
use Rattle.occ_nform_table.proofs.Lists.{IsStrict}

-- by a number first, and where it is the same by a test
abbrev pub first_by : ℕ → ℕ → Bool → Bool
first_by p q t = nat_lt p q || (p == q && t)

pub first_cases : (p q : ℕ) (t : Bool) → first_by p q t ≡ true → (p < q) ⊎ ((p ≡ q) × (t ≡ true))
first_cases p q t h = go (or_cases (nat_lt p q) (p == q && t) h)
  where
    go : (nat_lt p q ≡ true) ⊎ ((p == q && t) ≡ true) → (p < q) ⊎ ((p ≡ q) × (t ≡ true))
    go (inl e) = inl (ltb-true p q e)
    go (inr e) = let k = and_parts (p == q) t e in inr (eqb-true p q k.0, k.1)

first_less : (p q : ℕ) (t : Bool) → p < q → first_by p q t ≡ true
first_less p q t h = or_left (nat_lt p q) (p == q && t) (lt-ltb p q h)

first_same : (p q : ℕ) (t : Bool) → p ≡ q → t ≡ true → first_by p q t ≡ true
first_same p q t e h = or_right (nat_lt p q) (p == q && t) (and_from (p == q) t (eq-eqb p q e) h)

pub first_never : (p : ℕ) (t : Bool) → (t ≡ true → ⊥) → first_by p p t ≡ true → ⊥
first_never p t f h = go (first_cases p p t h)
  where
    go : (p < p) ⊎ ((p ≡ p) × (t ≡ true)) → ⊥
    go (inl l) = omega arith
    go (inr k) = f k.1

pub first_onward : (p q r : ℕ) (t u v : Bool) → (t ≡ true → u ≡ true → v ≡ true) → first_by p q t ≡ true → first_by q r u ≡ true → first_by p r v ≡ true
first_onward p q r t u v f h k = go (first_cases p q t h) (first_cases q r u k)
  where
    go : (p < q) ⊎ ((p ≡ q) × (t ≡ true)) → (q < r) ⊎ ((q ≡ r) × (u ≡ true)) → first_by p r v ≡ true
    go (inl l) (inl m) = first_less p r v (omega (arith, l, m))
    go (inl l) (inr m) = first_less p r v (omega (arith, l, m.0))
    go (inr l) (inl m) = first_less p r v (omega (arith, l.0, m))
    go (inr l) (inr m) = first_same p r v (l.0 ∙ m.0) (f l.1 m.1)

-- ---- texts
pub text_never : (a : List ℕ) → text_less a a ≡ true → ⊥
unfolding text_less
text_never [] h = false≢true h
text_never (b ∷ a) h = first_never b (text_less a a) (text_never a) h

pub text_onward : (a b c : List ℕ) → text_less a b ≡ true → text_less b c ≡ true → text_less a c ≡ true
unfolding text_less
text_onward [] [] c h k = absurd (false≢true h)
text_onward [] (y ∷ b) [] h k = absurd (false≢true k)
text_onward [] (y ∷ b) (z ∷ c) h k = refl
text_onward (x ∷ a) [] c h k = absurd (false≢true h)
text_onward (x ∷ a) (y ∷ b) [] h k = absurd (false≢true k)
text_onward (x ∷ a) (y ∷ b) (z ∷ c) h k = first_onward x y z (text_less a b) (text_less b c) (text_less a c) (text_onward a b c) h k

-- ---- sets
module _ (params : List (Name × Kind)) where
  set_never : (a : List Event) → set_less params a a ≡ true → ⊥
  unfolding set_less
  set_never [] h = false≢true h
  set_never (e ∷ a) h = first_never (rank params e) (set_less params a a) (set_never a) h

  set_onward : (a b c : List Event) → set_less params a b ≡ true → set_less params b c ≡ true → set_less params a c ≡ true
  unfolding set_less
  set_onward [] [] c h k = absurd (false≢true h)
  set_onward [] (y ∷ b) [] h k = absurd (false≢true k)
  set_onward [] (y ∷ b) (z ∷ c) h k = refl
  set_onward (x ∷ a) [] c h k = absurd (false≢true h)
  set_onward (x ∷ a) (y ∷ b) [] h k = absurd (false≢true k)
  set_onward (x ∷ a) (y ∷ b) (z ∷ c) h k =
      first_onward (rank params x) (rank params y) (rank params z) (set_less params a b) (set_less params b c) (set_less params a c) (set_onward a b c) h k

  pub sets_strict : IsStrict (set_less params)
  sets_strict = record { never = set_never; onward = set_onward }

-- ---- by a number
pub numbers_strict : {A : Type 0} (key : A → ℕ) → IsStrict (λ x y. nat_lt (key x) (key y))
numbers_strict key = record {
  never = λ x h. let k = ltb-true (key x) (key x) h in omega (arith, k);
  onward = λ x y z h k. lt-ltb (key x) (key z) (omega (arith, ltb-true (key x) (key y) h, ltb-true (key y) (key z) k));
}

-- ---- rows, by heights of the rows that they offer
abbrev pub key : List (List ℕ) → List ℕ → TableRow → ℕ × List ℕ
key names heights row = (height_over heights row.offers, row_text names row)

abbrev pub row_less : List (List ℕ) → List ℕ → TableRow → TableRow → Bool
row_less names heights r s = comes_after (Some (key names heights r)) (key names heights s)

pub rows_strict : (names : List (List ℕ)) (heights : List ℕ) → IsStrict (row_less names heights)
rows_strict names heights = record {
  never = λ r h. first_never (height_over heights r.offers) (text_less (row_text names r) (row_text names r)) (text_never (row_text names r)) h;
  onward = λ r s t h k. first_onward (height_over heights r.offers) (height_over heights s.offers) (height_over heights t.offers)
      (text_less (row_text names r) (row_text names s)) (text_less (row_text names s) (row_text names t)) (text_less (row_text names r) (row_text names t))
      (text_onward (row_text names r) (row_text names s) (row_text names t)) h k;
}
