-- A table of places grows by the elements of its names.
use Rattle.std.proofs.Common.{◌≡◌, ℕ, zero, suc, ◌+◌, ◌<◌, ◌≤◌, Bool, true, false, nat_lt, List, [], ◌∷◌, length, length-append, slice_get, Some, refl, ap, sym, ◌∙◌, subst, arith, ⊎_elim}
use Rattle.std.specs.Prelude.{if◌then◌else◌, nat_le, slice_index_or, unwrap_or}
use Rattle.std.specs.List.{AllByRecursion}
use Rattle.std.proofs.lemmas.Bool.{cases_lt, ltb-true, ltb-false, lt-ltb}
use Rattle.occ_script_write.specs.occ_base.declared.names.Name.{Name}
use Rattle.occ_script_write.specs.occ_base.Names.{place_of, with_text}
use Rattle.occ_script_write.proofs.from_base.Naming.{naming, place-le, with_there, with_new}
use Rattle.occ_script_write.specs.occ_lex.Spelling.{kind_of}
use Rattle.occ_script_write.specs.occ_lex.Symbols.{Extends}
use Rattle.occ_script_write.proofs.from_lex.Interned.{extends_same, extends_trans, extends_text, longer}
use Rattle.occ_print_back.proofs.from_parse.Texts.{stays}
use Rattle.occ_script.specs.occ_parse_part.Elements.{element_count, with_arrays}
use Rattle.occ_script.proofs.from_parse_part.Counted.{count_is}
use Rattle.occ_print_back.specs.occ_parse_rules.Places.{Place, elements_from}
use Rattle.occ_print_back.specs.occ_parse_unroll.Elements.{with_places}
use Rattle.occ_print_back.specs.occ_parse_unroll.Numbers.{element_text}
use Rattle.occ_script_write.specs.occ_print.Spelled.{name_text}
use Rattle.occ_print_back.specs.Placed.{place_text, IsPlace, IsTable}
use Rattle.occ_print_back.proofs.Stable.{element_is, index_is}
use Rattle.occ_print_back.proofs.Tokens.{number_text}
use Rattle.occ_script_back.specs.Tables.{IsBase, IsGrown, Grows}

-- ---- longer tables

module _ (names t : List (List ℕ)) (e : Extends names t) where
  pub text_stays : (x : ℕ) → x < length names → name_text t x ≡ name_text names x
  text_stays x h = ap (λ o. unwrap_or o []) (stays names t x (name_text names x) e (number_text names x h))

  place_stays : (p : Place) (text : List ℕ) → IsPlace names p text → IsPlace t p text
  place_stays p text h =
      let same = text_stays p.name h.there in record {
        there = omega (arith, h.there, longer names t e);
        kind = ap kind_of same ∙ h.kind;
        short = ap (λ s. nat_le (length s) 32) same ∙ h.short;
        index = h.index;
        text_is = h.text_is ∙ ap (λ s. place_text s p.element) (sym same);
      }

  pub base_stays : (x : ℕ) → IsBase names x → IsBase t x
  base_stays x h =
      let same = text_stays x h.there in record {
        there = omega (arith, h.there, longer names t e);
        kind = ap kind_of same ∙ h.kind;
        short = ap (λ s. nat_le (length s) 32) same ∙ h.short;
      }

  pub bases_stay : (xs : List Name) → AllByRecursion (λ (x : Name). IsBase names x.0) xs → AllByRecursion (λ (x : Name). IsBase t x.0) xs
  bases_stay [] h = tt
  bases_stay (x ∷ xs) h = (base_stays x.0 h.0, bases_stay xs h.1)

-- ---- one element more

module _ (names : List (List ℕ)) (P : ℕ → Place) (table : IsTable names P) (y k : ℕ) (base : IsBase names y) (small : k < 256) where
  abbrev text : List ℕ
  text = element_text (slice_index_or names y []) k

  abbrev next : List (List ℕ)
  next = with_text names text

  abbrev element : Place
  element = record { name = y; element = Some k }

  abbrev grown_place : ℕ → Place
  grown_place x = if nat_lt x (length names) then P x else element

  extends : Extends names next
  extends = extends_text names text

  text_is_place : text ≡ place_text (name_text names y) (Some k)
  text_is_place = ap (λ s. element_text s k) (index_is names y base.there) ∙ element_is (name_text names y) k

  -- what stands behind the names that were there
  last : (x : ℕ) → x < length next → length names ≤ x → name_text next x ≡ text
  last x h g = ⊎_elim
      (λ (l : place_of names text < length names). absurd (omega (arith, h, g, ap (λ (t : List (List ℕ)). length t) (with_there names text l))))
      (λ (r : length names ≤ place_of names text).
      let more : length next ≡ length names + 1 = ap (λ (t : List (List ℕ)). length t) (with_new names text r) ∙ length-append names (text ∷ []) in
      let here : x ≡ place_of names text = omega (arith, h, g, r, more, place-le names text) in
      ap (λ o. unwrap_or o []) (ap (slice_get next) here ∙ (naming names text).there))
      (cases_lt (place_of names text) (length names))

  place_at : (x : ℕ) → x < length next → (b : Bool) → nat_lt x (length names) ≡ b → IsPlace next (if b then P x else element) (name_text next x)
  place_at x h true e =
      let there : x < length names = ltb-true _ _ e in
      subst (IsPlace next (P x)) (sym (text_stays names next extends x there)) (place_stays names next extends (P x) (name_text names x) (table.places x there))
  place_at x h false e =
      let same = text_stays names next extends y base.there in
      subst (IsPlace next element) (sym (last x h (ltb-false _ _ e))) (record {
        there = omega (arith, base.there, longer names next extends);
        kind = ap kind_of same ∙ base.kind;
        short = ap (λ s. nat_le (length s) 32) same ∙ base.short;
        index = small;
        text_is = text_is_place ∙ ap (λ s. place_text s (Some k)) (sym same);
      })

  same_at : (x : ℕ) → x < length names → grown_place x ≡ P x
  same_at x h = ap (λ b. if b then P x else element) (lt-ltb _ _ h)

  element_grown : IsGrown names P next grown_place
  element_grown = record {
    table = record { distinct = (naming names text).distinct table.distinct; places = λ x h. place_at x h (nat_lt x (length names)) refl };
    extends = extends;
    same = same_at;
  }

-- ---- more elements

pub grown_both : (names t u : List (List ℕ)) (P Q R : ℕ → Place) → IsGrown names P t Q → IsGrown t Q u R → IsGrown names P u R
grown_both names t u P Q R g h = record {
  table = h.table;
  extends = extends_trans names t u g.extends h.extends;
  same = λ x l. h.same x (omega (arith, l, longer names t g.extends)) ∙ g.same x l;
}

elements_grow : (names : List (List ℕ)) (P : ℕ → Place) → IsTable names P → (y k n : ℕ) → IsBase names y → k + n ≤ 256 → Grows names P (with_places names (elements_from y k n))
elements_grow names P table y k zero base h = (P, record { table = table; extends = extends_same names; same = λ x l. refl })
elements_grow names P table y k (suc n) base h =
    let small : k < 256 = omega (arith, h) in
    let t = next names P table y k base small in
    let Q = grown_place names P table y k base small in
    let one : IsGrown names P t Q = element_grown names P table y k base small in
    let rest = elements_grow t Q one.table y (k + 1) n (base_stays names t one.extends y base) (omega (arith, h)) in
    (rest.0, grown_both names t (with_places t (elements_from y (k + 1) n)) P Q rest.0 one rest.1)

pub arrays_grow : (names : List (List ℕ)) (P : ℕ → Place) → IsTable names P → (arrays : List Name) → AllByRecursion (λ (x : Name). IsBase names x.0) arrays → Grows names P (with_arrays names arrays)
arrays_grow names P table [] h = (P, record { table = table; extends = extends_same names; same = λ x l. refl })
arrays_grow names P table (x ∷ arrays) h =
    let t = with_places names (elements_from x.0 0 element_count) in
    let first = elements_grow names P table x.0 0 element_count h.0 (omega (arith, count_is)) in
    let rest = arrays_grow t first.0 first.1.table arrays (bases_stay names t first.1.extends arrays h.1) in
    (rest.0, grown_both names t (with_arrays t arrays) P first.0 rest.0 first.1 rest.1)
