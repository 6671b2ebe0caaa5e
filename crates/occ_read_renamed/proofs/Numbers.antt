-- The number that a text of one table has in another one.
use Rattle.std.proofs.Common.{◌≡◌, ◌⊎◌, inl, inr, ⊎_elim, ℕ, ◌+◌, ◌<◌, ◌≤◌, true, nat_lt, if◌then◌else◌, List, get_or, length, length-append, ◌++◌, ◌∷◌, [], Option, Some, None, slice_get, refl, sym, ap, ◌∙◌, arith, rules}
use Rattle.std.proofs.lemmas.Bool.{cases_lt, eq-eqb, le-ltb, ne_eqb}
use Rattle.std.proofs.lemmas.Bool.Decides.{eqb_tells}
use Rattle.std.proofs.lemmas.Option.{slice_get-get_or, slice_get_within}
use Rattle.occ_nform.specs.occ_base.Names.{IsDistinct, place_of, with_text}
use Rattle.occ_nform.proofs.from_base.Naming.{at_place, naming, nowhere, with_new, with_there}
use Rattle.occ_renamed.specs.Standing.{IsOneForOne}
use Rattle.occ_read_renamed.specs.Readings.{IsRenumbering, StandIn}

abbrev pub Table : Type 0
Table = List (List ℕ)

-- equal options have equal values
pub some_text : (o : Option (List ℕ)) (s t : List ℕ) → o ≡ Some s → o ≡ Some t → s ≡ t
some_text o s t h k = let e : Some s ≡ Some t = sym h ∙ k in cc

-- a text that stands in the other table has its place there, and other numbers one behind that table
abbrev number_for : Table → ℕ → Option (List ℕ) → ℕ
number_for other x (Some text) = if nat_lt (place_of other text) (length other) then place_of other text else length other + x
number_for other x None = length other + x

abbrev pub number_in_other : Table → Table → ℕ → ℕ
number_in_other names other x = number_for other x (slice_get names x)

module _ (names other : Table) where
  -- a number has a text that stands in the other table, under its other number
  record IsMet (x : ℕ) : Type 0 where
    text : List ℕ
    here : slice_get names x ≡ Some text
    there : slice_get other (number_in_other names other x) ≡ Some text

  abbrev IsMetOrNot : ℕ → Type 0
  IsMetOrNot x = IsMet x ⊎ (number_in_other names other x ≡ length other + x)

  met_from : (x : ℕ) (text : List ℕ) → slice_get names x ≡ Some text → place_of other text < length other → IsMet x
  met_from x text e h =
      let small : nat_lt (place_of other text) (length other) ≡ true = search rules in
      let at : number_in_other names other x ≡ place_of other text =
      ap (number_for other x) e ∙ ap (λ b. if b then place_of other text else length other + x) small in
      record { text = text; here = e; there = ap (slice_get other) at ∙ at_place other text h }

  met_at : (x : ℕ) (o : Option (List ℕ)) → slice_get names x ≡ o → IsMetOrNot x
  met_at x None e = inr (ap (number_for other x) e)
  met_at x (Some text) e =
      ⊎_elim (λ (h : place_of other text < length other). inl (met_from x text e h))
      (λ (h : length other ≤ place_of other text).
      inr (ap (number_for other x) e ∙ ap (λ b. if b then place_of other text else length other + x) (le-ltb _ _ h)))
      (cases_lt (place_of other text) (length other))

  met : (x : ℕ) → IsMetOrNot x
  met x = met_at x (slice_get names x) refl

  module _ (d : IsDistinct names) where
    same_from : (x y : ℕ) → IsMetOrNot x → IsMetOrNot y → number_in_other names other x ≡ number_in_other names other y → x ≡ y
    same_from x y (inl h) (inl k) e =
        let same : h.text ≡ k.text = some_text (slice_get other (number_in_other names other x)) h.text k.text h.there (ap (slice_get other) e ∙ k.there) in
        d x y h.text h.here (k.here ∙ ap Some (sym same))
    same_from x y (inl h) (inr k) e =
        let within : number_in_other names other x < length other = slice_get_within other (number_in_other names other x) h.text h.there in
        absurd (omega (arith, within, e, k))
    same_from x y (inr h) (inl k) e =
        let within : number_in_other names other y < length other = slice_get_within other (number_in_other names other y) k.text k.there in
        absurd (omega (arith, within, e, h))
    same_from x y (inr h) (inr k) e = omega (arith, e, h, k)

    pub one_number : IsOneForOne (number_in_other names other)
    one_number x y = elim (eqb_tells x y) [
      | inl k ↦ eq-eqb (number_in_other names other x) (number_in_other names other y) (ap (number_in_other names other) k.1) ∙ sym k.0
      | inr k ↦ ne_eqb (number_in_other names other x) (number_in_other names other y) (λ e. k.1 (same_from x y (met x) (met y) e)) ∙ sym k.0
    ]

  -- what is no number of the table has a number behind the other one
  pub behind : (i : ℕ) → length names ≤ i → length other ≤ number_in_other names other i
  behind i h = ⊎_elim
      (λ (m : IsMet i). let small : i < length names = slice_get_within names i m.text m.here in absurd (omega (arith, small, h)))
      (λ (e : number_in_other names other i ≡ length other + i). omega (arith, e))
      (met i)

  -- a text that stands in both has its other number
  pub there : (i j : ℕ) (text : List ℕ) → slice_get names i ≡ Some text → slice_get other j ≡ Some text
      → slice_get other (number_in_other names other i) ≡ Some text
  there i j text e k =
      ⊎_elim
      (λ (h : place_of other text < length other).
      let m = met_from i text e h in m.there ∙ ap Some (some_text (slice_get names i) m.text text m.here e))
      (λ (h : length other ≤ place_of other text). absurd (nowhere other text h j k))
      (cases_lt (place_of other text) (length other))

module _ (names other : Table) (d : IsDistinct names) (s : StandIn names other) where
  pub renumbering : IsRenumbering (number_in_other names other) names other
  renumbering = record {
    one_for_one = one_number names other d;
    texts = λ i text e. let found = s i text e in there names other i found.0 text e found.1;
    beyond = λ i h. behind names other i h;
  }

  -- the names of the table come back
  pub comes_back : (x : ℕ) → x < length names → number_in_other other names (number_in_other names other x) ≡ x
  comes_back x h =
      let text = get_or names x [] in
      let here : slice_get names x ≡ Some text = slice_get-get_or names x [] h in
      let found = s x text here in
      let in_other = there names other x found.0 text here found.1 in
      let back = there other names (number_in_other names other x) x text in_other here in
      d (number_in_other other names (number_in_other names other x)) x text back here

-- ---- tables to which one text comes

one_longer : (ns : Table) (t : List ℕ) → length (ns ++ t ∷ []) ≡ length ns + 1
one_longer ns t = omega (arith, length-append ns (t ∷ []))

last_is : (names : Table) (text other : List ℕ) (i : ℕ) → slice_get (with_text names text) i ≡ Some other → length names ≤ place_of names text → length names ≤ i
    → other ≡ text
last_is names text other i e k h =
    let grown = with_text names text in
    let small : i < length grown = slice_get_within grown i other e in
    let place : place_of names text < length grown = slice_get_within grown (place_of names text) text (naming names text).there in
    let long : length grown ≡ length names + 1 = ap length (with_new names text k) ∙ one_longer names text in
    let at : i ≡ place_of names text = omega (arith, small, place, long, k, h) in
    some_text (slice_get grown i) other text e (ap (slice_get grown) at ∙ (naming names text).there)

either_there : (names : Table) (text other : List ℕ) (i : ℕ) → slice_get (with_text names text) i ≡ Some other → (slice_get names i ≡ Some other) ⊎ (other ≡ text)
either_there names text other i e =
    ⊎_elim (λ (h : i < length names). inl (sym ((naming names text).kept i h) ∙ e))
    (λ (h : length names ≤ i). ⊎_elim
    (λ (k : place_of names text < length names). inl (ap (λ ns. slice_get ns i) (sym (with_there names text k)) ∙ e))
    (λ (k : length names ≤ place_of names text). inr (last_is names text other i e k h))
    (cases_lt (place_of names text) (length names)))
    (cases_lt i (length names))

pub stand_with : (names other : Table) (text : List ℕ) → StandIn names other → StandIn (with_text names text) (with_text other text)
stand_with names other text s i t e = elim (either_there names text t i e) [
  | inl h ↦ let found = s i t h in
      let small : found.0 < length other = slice_get_within other found.0 t found.1 in
      (found.0, (naming other text).kept found.0 small ∙ found.1)
  | inr h ↦ (place_of other text, (naming other text).there ∙ ap Some (sym h))
]
