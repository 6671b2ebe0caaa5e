-- The names are distinct, and a table of texts is read at a place.
use Rattle.std.proofs.Common.{◌≡◌, ℕ, ◌+◌, ◌-◌, suc, zero, Bool, true, false, true≢false, not, ◌&&◌, ◌||◌, List, [], ◌∷◌, Some, length, map, slice_get, arith, refl, sym, ap, ◌∙◌}
use Rattle.std.proofs.lemmas.Bool.{and_parts}
use Rattle.std.proofs.lemmas.List.{length-map}
use Rattle.std.proofs.lemmas.Option.{slice_get_within}
use Rattle.std.proofs.lemmas.Slice.Eq.{bytes_eq-Decides}
use Rattle.std.specs.Borrow.{Bor}
use Rattle.std.specs.Str.{bytes_eq}
use Rattle.occ_law.specs.declared.table.LawId.{LawId}
use Rattle.occ_law.specs.Table.{IsNamed, law_names}

has : List (List ℕ) → List ℕ → Bool
has [] t = false
has (u ∷ us) t = bytes_eq t u || has us t

each_once : List (List ℕ) → Bool
each_once [] = true
each_once (t ∷ ts) = not (has ts t) && each_once ts

has_one : (ts : List (List ℕ)) (t : List ℕ) (i : ℕ) → slice_get ts i ≡ Some t → has ts t ≡ true
unfolding has
has_one [] t i e = absurd (none_there i t e)
  where
    none_there : (i : ℕ) (t : List ℕ) → slice_get {X = List ℕ} [] i ≡ Some t → ⊥
    none_there i t e = omega (arith, slice_get_within [] i t e)
has_one (u ∷ us) t zero e =
    let same : bytes_eq t u ≡ true = (bytes_eq-Decides t u).1 (cc) in
    ap (λ b. b || has us t) same
has_one (u ∷ us) t (suc i) e = or_true (bytes_eq t u) (has us t) (has_one us t i e)
  where
    or_true : (a b : Bool) → b ≡ true → (a || b) ≡ true
    or_true true b e = refl
    or_true false b e = e

-- a text that stands in front isn't behind
not_again : (u : List ℕ) (us : List (List ℕ)) (t : List ℕ) (j : ℕ) → (not (has us u) && each_once us) ≡ true → Some u ≡ Some t → slice_get us j ≡ Some t → ⊥
not_again u us t j once e f = twice (has us u) (and_parts (not (has us u)) (each_once us) once).0 (ap (has us) (same u t e) ∙ has_one us t j f)
  where
    same : (u t : List ℕ) → Some u ≡ Some t → u ≡ t
    same u t e = cc

    twice : (b : Bool) → not b ≡ true → b ≡ true → ⊥
    twice true e f = true≢false (sym e)
    twice false e f = true≢false (sym f)

-- a text that stands once has one place
one_place : (ts : List (List ℕ)) (t : List ℕ) (i j : ℕ) → each_once ts ≡ true → slice_get ts i ≡ Some t → slice_get ts j ≡ Some t → i ≡ j
unfolding each_once
one_place [] t i j once e f = absurd (omega (arith, slice_get_within [] i t e))
one_place (u ∷ us) t zero zero once e f = refl
one_place (u ∷ us) t zero (suc j) once e f = absurd (not_again u us t j once e f)
one_place (u ∷ us) t (suc i) zero once e f = absurd (not_again u us t i once f e)
one_place (u ∷ us) t (suc i) (suc j) once e f = ap suc (one_place us t i j (and_parts (not (has us u)) (each_once us) once).1 e f)

-- the table has each name once
all_once : each_once law_names ≡ true
unfolding each_once has law_names
all_once = refl

-- two laws of one name are one law
pub one_name : (i j : ℕ) (t : List ℕ) → slice_get law_names i ≡ Some t → slice_get law_names j ≡ Some t → i ≡ j
one_name i j t e f = one_place law_names t i j all_once e f

pub one_law : (a b : LawId) (t : List ℕ) → IsNamed a t → IsNamed b t → a ≡ b
one_law a b t m n =
    let e : a.0 - 1 ≡ b.0 - 1 = one_name (a.0 - 1) (b.0 - 1) t m.spelled n.spelled in
    let f : a.0 ≡ b.0 = omega (arith, e, m.low, n.low) in
    ap (λ k. record { 0 = k }) f

-- the law that is found is the one of that name
pub found_law : (place : ℕ) (text name : List ℕ) (law : LawId) → slice_get law_names place ≡ Some text → text ≡ name → IsNamed law name → Some (record { 0 = place + 1 }) ≡ Some law
found_law place text name law e f named =
    let g : place ≡ law.0 - 1 = one_name place (law.0 - 1) name (e ∙ ap Some f) named.spelled in
    let h : place + 1 ≡ law.0 = omega (arith, g, named.low) in
    ap (λ k. Some (record { 0 = k })) h

pub all_names : length law_names ≡ 63
unfolding law_names
all_names = refl

-- the table is as long as its texts
pub table_long : (xs : List (Bor (List ℕ))) → map (λ x. x.now) xs ≡ law_names → length xs ≡ 63
table_long xs e = sym (length-map xs (λ x. x.now)) ∙ ap length e ∙ all_names
