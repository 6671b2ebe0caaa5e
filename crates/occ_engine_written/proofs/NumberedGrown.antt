-- A table of places with the texts of another is one of places.
use Rattle.std.proofs.Common.{◌≡◌, ◌⊎◌, inl, inr, ⊎_elim, ℕ, zero, suc, ◌+◌, ◌<◌, ◌≤◌, Bool, true, false, nat_lt, nat_le, if◌then◌else◌, List, [], ◌∷◌, length, length-append, Option, Some, None, slice_get, refl, sym, ap, subst, ◌∙◌, arith}
use Rattle.std.proofs.lemmas.Bool.{cases_lt, lt-ltb, ltb-false, ltb-true}
use Rattle.std.proofs.lemmas.Option.{slice_get_within}
use Rattle.occ_engine_known.specs.occ_base.Names.{IsDistinct, place_of, with_text}
use Rattle.occ_engine_known.proofs.from_base.Naming.{naming, place-le, with_new, with_there}
use Rattle.occ_renamed.specs.occ_lex.Spelling.{kind_of}
use Rattle.occ_renamed.specs.occ_lex.Symbols.{Extends}
use Rattle.occ_renamed.proofs.from_lex.Interned.{extends_same, extends_text, extends_trans, longer}
use Rattle.occ_renamed.proofs.from_parse.Texts.{stays}
use Rattle.occ_renamed.specs.occ_parse_rules.Places.{Place}
use Rattle.occ_renamed.specs.occ_print.Spelled.{name_text}
use Rattle.occ_script_table.specs.occ_print_back.Placed.{IsPlace, IsTable, place_text}
use Rattle.occ_script_table.specs.occ_script_back.Tables.{IsGrown}
use Rattle.occ_engine_written.specs.Front.{AllStandIn, with_texts}
use Rattle.occ_engine_written.proofs.Front.{one_text}
use Rattle.occ_engine_written.proofs.Tables.{text_at, there, within_of}

pub texts_extend : (names texts : List (List ℕ)) → Extends names (with_texts names texts)
texts_extend names [] = extends_same names
texts_extend names (t ∷ texts) =
    extends_trans names (with_text names t) (with_texts (with_text names t) texts) (extends_text names t) (texts_extend (with_text names t) texts)

texts_distinct : (names texts : List (List ℕ)) → IsDistinct names → IsDistinct (with_texts names texts)
texts_distinct names [] d = d
texts_distinct names (t ∷ texts) d = texts_distinct (with_text names t) texts ((naming names t).distinct d)

pub texts_there : (names texts : List (List ℕ)) → AllStandIn texts (with_texts names texts)
texts_there names [] i text e = absurd (let bad : ◌≡◌ {A = Option (List ℕ)} None (Some text) = e in cc)
texts_there names (t ∷ texts) zero text e =
    let next = with_text names t in
    (place_of names t, stays next (with_texts next texts) (place_of names t) text (texts_extend next texts) ((naming names t).there ∙ e))
texts_there names (t ∷ texts) (suc i) text e = texts_there (with_text names t) texts i text e

-- what stands in the table with a text stood there, or is it
pub one_from : (names : List (List ℕ)) (t text : List ℕ) (j : ℕ) → slice_get (with_text names t) j ≡ Some text → (slice_get names j ≡ Some text) ⊎ (t ≡ text)
one_from names t text j e = ⊎_elim
    (λ (h : j < length names). inl (sym ((naming names t).kept j h) ∙ e))
    (λ (h : length names ≤ j). ⊎_elim
    (λ (k : place_of names t < length names). inl (ap (λ ts. slice_get ts j) (sym (with_there names t k)) ∙ e))
    (λ (k : length names ≤ place_of names t).
    let within : j < length (with_text names t) = slice_get_within (with_text names t) j text e in
    let more : length (with_text names t) ≡ length names + 1 = ap (λ (ts : List (List ℕ)). length ts) (with_new names t k) ∙ length-append names (t ∷ []) in
    let last : place_of names t ≡ j = omega (arith, h, within, more, k, place-le names t) in
    inr (one_text t text (slice_get (with_text names t) j) (ap (slice_get (with_text names t)) (sym last) ∙ (naming names t).there) e))
    (cases_lt (place_of names t) (length names)))
    (cases_lt j (length names))

texts_from : (names texts : List (List ℕ)) (j : ℕ) (text : List ℕ) → slice_get (with_texts names texts) j ≡ Some text
    → (slice_get names j ≡ Some text) ⊎ ((i : ℕ) × (slice_get texts i ≡ Some text))
texts_from names [] j text e = inl e
texts_from names (t ∷ texts) j text e = at (texts_from (with_text names t) texts j text e)
  where
    first : (slice_get names j ≡ Some text) ⊎ (t ≡ text) → (slice_get names j ≡ Some text) ⊎ ((i : ℕ) × (slice_get (t ∷ texts) i ≡ Some text))
    first (inl h) = inl h
    first (inr h) = inr (zero, ap Some h)

    at : (slice_get (with_text names t) j ≡ Some text) ⊎ ((i : ℕ) × (slice_get texts i ≡ Some text))
        → (slice_get names j ≡ Some text) ⊎ ((i : ℕ) × (slice_get (t ∷ texts) i ≡ Some text))
    at (inl h) = first (one_from names t text j h)
    at (inr h) = inr (suc h.0, h.1)

-- ---- the places of the longer table

module _ (names : List (List ℕ)) (P : ℕ → Place) (table : IsTable names P) (texts : List (List ℕ)) (Q : ℕ → Place) (second : IsTable texts Q) where
  abbrev all : List (List ℕ)
  all = with_texts names texts

  distinct : IsDistinct all
  distinct = texts_distinct names texts table.distinct

  text_stays : (x : ℕ) → x < length names → name_text all x ≡ name_text names x
  text_stays x h = text_at all x (name_text names x) (stays names all x (name_text names x) (texts_extend names texts) (there names x h))

  -- a text of the second table has the place in the longer one that its base has there
  abbrev found : List ℕ → Place
  found text =
      let p = Q (place_of texts text) in
      record { name = place_of all (name_text texts p.name); element = p.element }

  abbrev pub grown_places : ℕ → Place
  grown_places x = if nat_lt x (length names) then P x else found (name_text all x)

  found_place : (i : ℕ) (text : List ℕ) → slice_get texts i ≡ Some text → IsPlace all (found text) text
  found_place i text e =
      let where_is : place_of texts text ≡ i = (naming texts text).again i second.distinct e in
      let here : IsPlace texts (Q (place_of texts text)) text =
      subst (λ j. IsPlace texts (Q j) text) (sym where_is) (subst (IsPlace texts (Q i)) (text_at texts i text e) (second.places i (within_of texts i text e))) in
      let p = Q (place_of texts text) in
      let base = name_text texts p.name in
      let stands = texts_there names texts p.name base (there texts p.name here.there) in
      let number : place_of all base ≡ stands.0 = (naming all base).again stands.0 distinct stands.1 in
      let text_of_base : name_text all (place_of all base) ≡ base = ap (name_text all) number ∙ text_at all stands.0 base stands.1 in
      record {
        there = subst (λ n. n < length all) (sym number) (within_of all stands.0 base stands.1);
        kind = ap kind_of text_of_base ∙ here.kind;
        short = ap (λ t. nat_le (length t) 32) text_of_base ∙ here.short;
        index = here.index;
        text_is = here.text_is ∙ ap (λ t. place_text t p.element) (sym text_of_base);
      }

  place_at : (x : ℕ) → x < length all → (b : Bool) → nat_lt x (length names) ≡ b → IsPlace all (if b then P x else found (name_text all x)) (name_text all x)
  place_at x h true e =
      let small : x < length names = ltb-true _ _ e in
      let p = table.places x small in
      let same = text_stays (P x).name p.there in
      record {
        there = omega (arith, p.there, longer names all (texts_extend names texts));
        kind = ap kind_of same ∙ p.kind;
        short = ap (λ t. nat_le (length t) 32) same ∙ p.short;
        index = p.index;
        text_is = text_stays x small ∙ p.text_is ∙ ap (λ t. place_text t (P x).element) (sym same);
      }
  place_at x h false e = at (texts_from names texts x (name_text all x) (there all x h))
    where
      at : (slice_get names x ≡ Some (name_text all x)) ⊎ ((i : ℕ) × (slice_get texts i ≡ Some (name_text all x))) → IsPlace all (found (name_text all x)) (name_text all x)
      at (inl k) = absurd (let small : x < length names = within_of names x (name_text all x) k in let large : length names ≤ x = ltb-false _ _ e in omega (arith, small, large))
      at (inr k) = found_place k.0 (name_text all x) k.1

  pub texts_grown : IsGrown names P all grown_places
  texts_grown = record {
    table = record { distinct = distinct; places = λ x h. place_at x h (nat_lt x (length names)) refl };
    extends = texts_extend names texts;
    same = λ x h. ap (λ b. if b then P x else found (name_text all x)) (lt-ltb _ _ h);
  }
