-- Elements that stand in a table have their numbers in each longer one.
use Rattle.std.proofs.Common.{◌≡◌, ℕ, ◌<◌, ◌≤◌, List, [], ◌∷◌, length, get_or, Option, Some, None, refl, sym, ap, ◌∙◌, arith}
use Rattle.std.specs.List.{AllByRecursion}
use Rattle.std.specs.Prelude.{slice_index_or, IfSome}
use Rattle.std.proofs.lemmas.Option.{slice_get-get_or, slice_get_within}
use Rattle.occ_script_back.specs.occ_base.Names.{place_of, with_text}
use Rattle.occ_script_back.proofs.from_base.Naming.{naming, with_there}
use Rattle.occ_script_back.specs.occ_lex.Symbols.{Extends}
use Rattle.occ_script_back.proofs.from_lex.Interned.{extends_trans, longer}
use Rattle.occ_script_back.specs.occ_parse_rules.Places.{Place}
use Rattle.occ_script_back.specs.occ_parse_unroll.Elements.{with_place, with_places}
use Rattle.occ_script_back.specs.occ_parse_unroll.Numbers.{element_text, number_in}
use Rattle.occ_script_back.proofs.from_parse_unroll.Elements.{places_extend}
use Rattle.occ_script_back.proofs.from_parse_unroll.Tables.{element_number}
use Rattle.occ_script_table.proofs.Below.{IsLow}
use Rattle.occ_script_table.proofs.Numbers.{AreSame}

abbrev pub Table : Type 0
Table = List (List ℕ)

module _ (old : Table) (x k : ℕ) (low : x < length old) where
  abbrev array : List ℕ
  array = get_or old x []

  abbrev text : List ℕ
  text = element_text array k

  -- the number of an element that comes into a table
  number_is : (t : Table) → Extends (with_text old text) t → place_of old text ≡ number_in t x (Some k)
  number_is t e = element_number old (with_text old text) x k (place_of old text) array text low (slice_get-get_or old x [] low) refl refl refl t e

  element_there : (t : Table) → Extends (with_text old text) t → with_place t x (Some k) ≡ t
  element_there t e =
      let n = place_of old text in
      let small : n < length (with_text old text) = slice_get_within (with_text old text) n text (naming old text).there in
      let within : number_in t x (Some k) < length t = omega (arith, small, number_is t e, longer (with_text old text) t e) in
      with_there t (element_text (slice_index_or t x []) k) within

-- one place
place_same : (old t u : Table) (x : ℕ) (o : Option ℕ) → IfSome o (λ k. x < length old) → Extends (with_place old x o) t → Extends (with_place old x o) u
    → number_in t x o ≡ number_in u x o
place_same old t u x None h e f = refl
place_same old t u x (Some k) h e f = sym (number_is old x k h t e) ∙ number_is old x k h u f

place_there : (old t : Table) (x : ℕ) (o : Option ℕ) → IfSome o (λ k. x < length old) → Extends (with_place old x o) t → with_place t x o ≡ t
place_there old t x None h e = refl
place_there old t x (Some k) h e = element_there old x k h t e

place_extends : (old : Table) (x : ℕ) (o : Option ℕ) → Extends old (with_place old x o)
place_extends old x o = places_extend old (record { name = x; element = o } ∷ [])

low_later : (n m x : ℕ) (o : Option ℕ) → n ≤ m → IfSome o (λ k. x < n) → IfSome o (λ k. x < m)
low_later n m x None l h = tt
low_later n m x (Some k) l h = omega (arith, l, h)

all_low_later : (n m : ℕ) (ps : List Place) → n ≤ m → AllByRecursion (IsLow n) ps → AllByRecursion (IsLow m) ps
all_low_later n m [] l h = tt
all_low_later n m (p ∷ ps) l h = (low_later n m p.name p.element l h.0, all_low_later n m ps l h.1)

-- places one after the other: in two longer tables they have one number
pub places_same : (old t u : Table) (ps : List Place) → AllByRecursion (IsLow (length old)) ps → Extends (with_places old ps) t → Extends (with_places old ps) u
    → AreSame (number_in t) (number_in u) ps
places_same old t u [] h e f = tt
places_same old t u (p ∷ ps) h e f =
    let next = with_place old p.name p.element in
    let more = places_extend next ps in
    let whole = with_places next ps in (
      place_same old t u p.name p.element h.0 (extends_trans next whole t more e) (extends_trans next whole u more f),
      places_same next t u ps (all_low_later (length old) (length next) ps (longer old next (place_extends old p.name p.element)) h.1) e f,
    )

-- and a longer table has them all
pub places_there : (old t : Table) (ps : List Place) → AllByRecursion (IsLow (length old)) ps → Extends (with_places old ps) t → with_places t ps ≡ t
places_there old t [] h e = refl
places_there old t (p ∷ ps) h e =
    let next = with_place old p.name p.element in
    ap (λ s. with_places s ps) (place_there old t p.name p.element h.0 (extends_trans next (with_places next ps) t (places_extend next ps) e))
    ∙ places_there next t ps (all_low_later (length old) (length next) ps (longer old next (place_extends old p.name p.element)) h.1) e
